use Rattle.std.proofs.Common.{◌≡◌}
use Rattle.window_allocation.proofs.guess.take_all_opened.Given as goal

abbrev pub invariant-loop-batch : goal.invariant-loop-batch
invariant-loop-batch l = l.words.endpoints ≡ l.fn.words.endpoints
