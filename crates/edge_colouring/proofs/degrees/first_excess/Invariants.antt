use Rattle.std.proofs.Common.{◌<◌, ◌≤◌, ℕ, get_or}
use Rattle.edge_colouring.proofs.degrees.first_excess.Given as goal

abbrev pub invariant-loop-rack : goal.invariant-loop-rack
invariant-loop-rack l = (k : ℕ) → k < l.rack → get_or l.degrees k 0 ≤ l.most
