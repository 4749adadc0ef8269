use Rattle.std.proofs.Common.{◌≡◌}
use Rattle.replay_rounds.proofs.publish.read_ahead.Given as goal

abbrev pub invariant-loop-batch : goal.invariant-loop-batch
invariant-loop-batch l = l.lane ≡ l.initial.lane
