use Rattle.std.proofs.Common.{◌≡◌, ◌+◌, ℕ, Some, cond, nat_lt, slice_get}
use Rattle.lane_rounds.specs.State.{RoundsState}
use Rattle.trace_run.specs.Run.{Setting}
use Rattle.replay_rounds.specs.Standing.{LaneStands}
use Rattle.replay_rounds.specs.Publishing.{WindowIsPublished, EachLaneStands}
use Rattle.replay_rounds.proofs.publish.count_slots.Given as goal

abbrev pub invariant-loop-src : goal.invariant-loop-src
invariant-loop-src l =
    (setting : Setting) (collected : ℕ) → WindowIsPublished setting collected l.publisher → EachLaneStands setting collected l.from l.initial.lanes →
    (endpoint : ℕ) (lane : RoundsState) → slice_get l.lanes endpoint ≡ Some lane →
    LaneStands setting collected (cond (nat_lt endpoint l.src) (l.publisher.first_batch + l.publisher.count) l.from) endpoint lane
