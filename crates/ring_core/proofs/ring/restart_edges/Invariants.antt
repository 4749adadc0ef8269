use Rattle.std.proofs.Common.{◌≡◌, ◌<◌, ◌≤◌, ℕ, [], length, Some, slice_get}
use Rattle.ring_core.specs.States.{EdgeState}
use Rattle.ring_core.specs.Edges.{room_at}
use Rattle.ring_core.proofs.ring.restart_edges.Given as goal

abbrev pub invariant-loop-edge : goal.invariant-loop-edge
invariant-loop-edge l = record {
  count : length l.edge-items ≡ length l.fn.edges;
  empty : (number : ℕ) (edge : EdgeState) → number < l.edge-index → slice_get l.edge-items number ≡ Some edge → (edge.pieces ≡ []) × (edge.taken ≡ 0) × (edge.sent ≡ 0);
  rest : (number : ℕ) → l.edge-index ≤ number → slice_get l.edge-items number ≡ slice_get l.fn.edges number;
  rooms : (number : ℕ) → room_at l.edge-items number ≡ room_at l.fn.edges number;
}
