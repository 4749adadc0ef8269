use Rattle.std.proofs.Common.{◌≡◌, ◌+◌, ◌*◌, min, length, map}
use Rattle.std.specs.List.{range_with_len}
use Rattle.slot_batches.specs.Pieces.{piece_at}
use Rattle.ring_core.proofs.whole.give_list.Given as goal

abbrev pub invariant-loop-place : goal.invariant-loop-place
invariant-loop-place l = record {
  pieces : l.edge.pieces ≡ map (piece_at l.stage l.list.items) (range_with_len 0 l.place);
  taken : l.edge.taken ≡ l.fn.edge.taken;
  sent : l.edge.sent ≡ l.fn.edge.sent + l.place;
  room : l.edge.room ≡ l.fn.edge.room;
  nodes : length l.spare + min (l.place * 64) (length l.list.items) ≡ length l.fn.spare;
}
