use Rattle.std.proofs.Common.{◌≡◌, length, true, false}
use Rattle.edge_colouring.specs.Degrees.{racks_on}
use Rattle.edge_colouring.proofs.TurnLemmas.{IsOnPath, unmoved}
use Rattle.edge_colouring.proofs.painting.exchange.Given as goal

abbrev pub invariant-loop-other : goal.invariant-loop-other
invariant-loop-other l = record {
  path : IsOnPath (racks_on false l.graph.edges) (racks_on true l.graph.edges) l.b l.a l.fn.colours l.right l.left l.colours l.edge;
  left_room : length l.left ≡ length l.fn.left;
  right_room : length l.right ≡ length l.fn.right;
}

abbrev pub decreases-loop-other : goal.decreases-loop-other
decreases-loop-other l = unmoved l.colours l.fn.colours
