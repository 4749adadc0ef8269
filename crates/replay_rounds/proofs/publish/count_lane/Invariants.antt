use Rattle.std.proofs.Common.{◌+◌, ◌*◌, ℕ}
use Rattle.trace_run.specs.Run.{Setting}
use Rattle.replay_rounds.specs.Standing.{LaneStands}
use Rattle.replay_rounds.specs.Publishing.{WindowIsPublished}
use Rattle.replay_rounds.specs.Counting.{HasCounted}
use Rattle.replay_rounds.proofs.publish.count_lane.Given as goal

abbrev pub invariant-loop-batch : goal.invariant-loop-batch
invariant-loop-batch l =
    (setting : Setting) (collected : ℕ) → WindowIsPublished setting collected l.publisher → LaneStands setting collected l.from l.src l.initial.lane →
    HasCounted setting collected (l.publisher.first_batch + l.publisher.count) (l.batch * setting.b) l.src l.lane
