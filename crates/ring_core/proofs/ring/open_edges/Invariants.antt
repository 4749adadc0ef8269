use Rattle.std.proofs.Common.{◌≡◌, [], length, All}
use Rattle.ring_core.proofs.ring.open_edges.Given as goal

abbrev pub invariant-loop : goal.invariant-loop
invariant-loop l = record {
  count : length l.edges.items ≡ l.counter;
  empty : All (λ edge. (edge.pieces ≡ []) × (edge.taken ≡ 0) × (edge.sent ≡ 0)) l.edges.items;
  rooms : All (λ edge. edge.room ≡ l.room) l.edges.items;
}
