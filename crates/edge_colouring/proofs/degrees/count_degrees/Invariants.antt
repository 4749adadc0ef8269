use Rattle.std.proofs.Common.{◌≡◌, ◌<◌, ℕ, take, length, get_or}
use Rattle.edge_colouring.specs.Degrees.{degree_on}
use Rattle.edge_colouring.proofs.degrees.count_degrees.Given as goal

abbrev pub invariant-loop-at : goal.invariant-loop-at
invariant-loop-at l = (rack : ℕ) → rack < length l.degrees → get_or l.degrees rack 0 ≡ degree_on l.left rack (take l.at l.graph.edges)
