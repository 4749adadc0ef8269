use Rattle.std.proofs.Common.{◌<◌, ℕ, List, ◌∷◌, refl, sym, subst, arith}
use Rattle.fcp_framing.specs.declared.packet.Told.{Told}
use Rattle.endpoint_history.specs.Conditions.{history_of, allocations_of}
use Rattle.endpoint_history.specs.Lane.{MakesDown}
use Rattle.arbiter_lane.specs.Standing.{LaneStandsFor}
use Rattle.arbiter_lane.specs.State.{AreAllocated, AreSlots}
use Rattle.both_ends_rows.proofs.Playing.{told-slots}
use Rattle.both_ends_rows.proofs.Serving.{slot-allocated, served-told}
use Rattle.both_ends_rows.proofs.tests.lane_calls.Caller.tell.Goals as goal

pub make_down-requires : goal.make_down-requires
make_down-requires g c =
    let it = c.args.self.now in
    let is = c.requires in
    record {
      round = sym is.at;
      rounds = omega arith;
      once = is.not_made refl;
      slots = subst (λ (told : List Told). AreSlots it.lane.endpoints it.lane.b it.lane.endpoint told) (sym c.told-told.ensures)
          (told-slots it.lane.endpoints it.lane.b it.lane.endpoint it.dst it.before (omega (arith, is.b)) (subst (λ (e : ℕ). it.dst < e) (sym is.endpoints) is.within) is.other);
      allocated = subst (λ (told : List Told). AreAllocated it.lane it.round told) (sym c.told-told.ensures)
          (slot-allocated it.lane it.dst it.round it.before it.last c.conditions_suffice.ensures is);
    }

pub returns-clause-served : goal.returns-clause-served
returns-clause-served g c =
    let it = c.args.self.now in
    let is = c.requires in
    served-told it.lane it.dst it.round it.before it.last c.make_down.new.self is c.make_down.ensures.frame
    (subst (λ (told : List Told). LaneStandsFor c.make_down.new.self (MakesDown it.round told ∷ history_of is.calls) (allocations_of is.calls)) c.told-told.ensures
    (c.make_down.ensures.stands (history_of is.calls) (allocations_of is.calls) is.stands))
