use Rattle.std.proofs.Common.{◌<◌, ◌∷◌, sym, ap, subst, refl, arith}
use Rattle.std.specs.Vec.{with_items}
use Rattle.endpoint_history.specs.Packets.{Resets}
use Rattle.endpoint_history.specs.Lane.{TakesUp, epoch_of}
use Rattle.std.proofs.lemmas.Bool.{lt-ltb}
use Rattle.arbiter_lane.specs.State.{LaneState}
use Rattle.arbiter_lane.specs.Standing.{LaneStandsFor}
use Rattle.arbiter_lane.specs.Lines.{HasStartedAgain}
use Rattle.arbiter_lane.specs.contracts.lane.Lane.{the_view}
use Rattle.arbiter_lane.proofs.Held.{Become-written}
use Rattle.arbiter_lane.proofs.Beginning.{stands-begun, sound-begun, tells-begun}
use Rattle.arbiter_lane.proofs.Marking.{marked-begun, marked-written}
use Rattle.arbiter_lane.proofs.lane.Lane.begin.Goals as goal

pub invariant_of-self : goal.invariant_of-self
invariant_of-self c =
    let was : LaneState = the_view c.self.inside in
    let before = c.self.invariant in
    let lines = (with_items c.self.inside.lines c.restart-2.new.lines).items in
    let become = Become-written (λ dst. HasStartedAgain) c.self.inside.lines c.deref_mut.result.now c.restart-2.new.lines c.deref_mut.ensures.value c.restart-2.ensures in
    let greater : was.epoch < c.args.epoch = omega (arith, c.requires.epoch, ap (λ (l : LaneState). l.epoch) c.self.view_is) in (
      sound-begun was c.args.epoch c.args.version c.new-self-inside.result c.restart.new.self lines c.requires.version c.new-self-inside.ensures.version c.restart.ensures.version c.restart.ensures.stands become before.0,
      (
        TakesUp was.round (Resets c.args.epoch c.args.version) ∷ before.1.0,
        before.1.1,
        stands-begun c.lanes_count_slots.ensures.resets was was.round c.args.epoch c.args.version c.new-self-inside.result c.restart.new.self lines before.1.0 before.1.1 refl greater c.new-self-inside.ensures.stands c.restart.ensures.version c.restart.ensures.stands become before.1.2,
        tells-begun was was.round c.args.epoch c.args.version c.new-self-inside.result c.restart.new.self lines before.1.0
            (lt-ltb (epoch_of before.1.0) c.args.epoch (omega (arith, greater, before.1.2.epoch))),
      ),
      marked-written c.clear_all.new.self c.self.inside.lines c.deref_mut.result.now c.restart-2.new.lines c.deref_mut.ensures.value c.restart-2.ensures.as_many
          (marked-begun c.clear_all.new.self c.deref_mut.result.now c.restart-2.new.lines c.restart-2.ensures),
    )

pub returns-clause-stands : goal.returns-clause-stands
returns-clause-stands c = λ history allocations stands.
    let was : LaneState = the_view c.self.inside in
    let lines = (with_items c.self.inside.lines c.restart-2.new.lines).items in
    let become = Become-written (λ dst. HasStartedAgain) c.self.inside.lines c.deref_mut.result.now c.restart-2.new.lines c.deref_mut.ensures.value c.restart-2.ensures in
    let greater : was.epoch < c.args.epoch = omega (arith, c.requires.epoch, ap (λ (l : LaneState). l.epoch) c.self.view_is) in
    stands-begun c.lanes_count_slots.ensures.resets was c.args.self.now.round c.args.epoch c.args.version c.new-self-inside.result c.restart.new.self lines history allocations
    (ap (λ (l : LaneState). l.round) c.self.view_is) greater c.new-self-inside.ensures.stands c.restart.ensures.version c.restart.ensures.stands become
    (subst (λ (l : LaneState). LaneStandsFor l history allocations) (sym c.self.view_is) stands)
