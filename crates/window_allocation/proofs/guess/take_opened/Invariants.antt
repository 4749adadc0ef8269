use Rattle.std.proofs.Common.{◌≡◌}
use Rattle.window_allocation.proofs.guess.take_opened.Given as goal

abbrev pub invariant-loop-at : goal.invariant-loop-at
invariant-loop-at l = l.words.endpoints ≡ l.fn.words.endpoints
