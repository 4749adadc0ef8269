use Rattle.std.proofs.Common.{ℕ, drop}
use Rattle.trace_run.specs.Run.{Setting}
use Rattle.replay_rounds.specs.Counting.{IsRest, MayCount}
use Rattle.replay_rounds.proofs.publish.count_batch.Given as goal

abbrev pub invariant-loop-one : goal.invariant-loop-one
invariant-loop-one l =
    (setting : Setting) (collected all src : ℕ) → MayCount setting collected all src → IsRest setting collected all src l.batch l.initial.lane l.told →
    IsRest setting collected all src l.batch l.lane (drop l.one-index l.told)
