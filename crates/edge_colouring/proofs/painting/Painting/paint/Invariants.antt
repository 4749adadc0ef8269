use Rattle.std.proofs.Common.{◌≡◌, length, vec_len, vec_capacity}
use Rattle.edge_colouring.specs.Painted.{IsPainted}
use Rattle.edge_colouring.proofs.painting.Painting.paint.Given as goal

abbrev pub invariant-loop-edge : goal.invariant-loop-edge
invariant-loop-edge l = record {
  painted : IsPainted l.graph.edges l.most l.self.colours.items l.self.left l.self.right;
  count : vec_len l.self.colours ≡ l.edge;
  capacity : vec_capacity l.self.colours ≡ vec_capacity l.fn.self.colours;
  left_racks : length l.self.left ≡ length l.fn.self.left;
  right_racks : length l.self.right ≡ length l.fn.self.right;
}
