use Rattle.std.proofs.Common.{◌≡◌, ◌≤◌, ◌+◌, ◌++◌, length}
use Rattle.ring_core.specs.Streams.{items_of}
use Rattle.ring_core.proofs.whole.take_list.Given as goal

abbrev pub invariant-loop-piece : goal.invariant-loop-piece
invariant-loop-piece l = record {
  items : l.list.items ++ items_of l.edge.pieces ≡ l.fn.list.items ++ items_of l.fn.edge.pieces;
  spare : length l.list.items + l.list.spare ≡ length l.fn.list.items + l.fn.list.spare;
  fits : length (items_of l.edge.pieces) ≤ l.list.spare;
  counts : l.edge.taken + length l.edge.pieces ≡ l.fn.edge.taken + length l.fn.edge.pieces;
  room : l.edge.room ≡ l.fn.edge.room;
  nodes : length l.spare + length (items_of l.edge.pieces) ≡ length l.fn.spare + length (items_of l.fn.edge.pieces);
}

abbrev pub decreases-loop-piece : goal.decreases-loop-piece
decreases-loop-piece l = length l.edge.pieces
