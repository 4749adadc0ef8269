use Rattle.std.proofs.Common.{◌≤◌, ◌∷◌, sym, ◌∙◌, ap, subst}
use Rattle.arbiter_lane.specs.State.{LaneState}
use Rattle.lane_rounds.specs.State.{RoundsState}
use Rattle.lane_rounds.specs.Standing.{RoundsStandFor}
use Rattle.lane_rounds.proofs.Playing.{stands-allocated}
use Rattle.lane_rounds.specs.contracts.rounds.LaneRounds.{the_view}
use Rattle.lane_rounds.proofs.rounds.LaneRounds.allocated.Goals as goal

pub invariant_of-self : goal.invariant_of-self
invariant_of-self c = λ whole.
    let before = c.self.invariant whole in
    let frame = c.allocated.ensures.frame in
    let one = before.0 in (
      record {
        endpoint = one.endpoint ∙ sym (ap (λ (l : LaneState). l.endpoint) frame);
        endpoints = one.endpoints ∙ sym (ap (λ (l : LaneState). l.endpoints) frame);
        b = one.b ∙ sym (ap (λ (l : LaneState). l.b) frame);
        g = one.g ∙ sym (ap (λ (l : LaneState). l.g) frame);
        slots = subst (λ (l : LaneState). l.b ≤ 64) (sym frame) one.slots;
        round = one.round ∙ sym (ap (λ (l : LaneState). l.round) frame);
        up = one.up;
        down = ap (λ (l : LaneState). l.is_made) frame ∙ one.down;
      },
      record {
        rounds = before.1.rounds;
        allocations = record { dst = c.args.dst; batch = c.args.batch; slots = c.args.n } ∷ before.1.allocations;
        stands = stands-allocated (the_view c.self.inside) c.allocated.new.self (record { dst = c.args.dst; batch = c.args.batch; slots = c.args.n }) before.1.rounds before.1.allocations frame c.allocated.ensures.stands before.1.stands;
      },
    )

pub returns-clause-stands : goal.returns-clause-stands
returns-clause-stands c = λ rounds allocations stood.
    stands-allocated (the_view c.self.inside) c.allocated.new.self (record { dst = c.args.dst; batch = c.args.batch; slots = c.args.n }) rounds allocations c.allocated.ensures.frame c.allocated.ensures.stands
    (subst (λ (s : RoundsState). RoundsStandFor s rounds allocations) (sym c.self.view_is) stood)
