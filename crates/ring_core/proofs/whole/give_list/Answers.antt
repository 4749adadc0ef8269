use Rattle.std.proofs.Common.{ℕ, [], ◌∷◌, ◌++◌, length, sym, ap, ◌∙◌, arith}
use Rattle.std.proofs.lemmas.List.FromFn.{map-range_with_len_more, length-map-range_with_len}
use Rattle.slot_batches.specs.Pieces.{piece_at, piece_count}
use Rattle.ring_core.proofs.CutLemmas.{part_is, part_length}
use Rattle.ring_core.proofs.whole.give_list.Goals as goal

pub of-requires-clause-nodes : goal.of-requires-clause-nodes
of-requires-clause-nodes c =
    let was = c.loop-place.invariant in
    omega (arith, was.nodes, part_length c.items-items.result.now c.loop-place.place c.min.result c.min.ensures, ap length c.items-items.ensures, c.requires.nodes)

pub returns-clause-nodes : goal.returns-clause-nodes
returns-clause-nodes c =
    omega (arith, c.loop-place.invariant.nodes, c.loop-place-test.false, c.loop-place.auto.place-end, c.count_pieces-count.ensures, ap length c.items-items.ensures)

pub send-requires-clause-place : goal.send-requires-clause-place
send-requires-clause-place c =
    let was = c.loop-place.invariant in
    let place : ℕ = c.loop-place.place in
    let count = ap length was.pieces in
    let long = length-map-range_with_len (piece_at c.args.stage c.args.list.now.items) 0 place in
    omega (arith, count, long, c.loop-place-test.true, c.loop-place.auto.place-end, c.count_pieces-count.ensures, ap piece_count c.items-items.ensures, c.requires.room, was.room)

pub loop-place-preserved : goal.loop-place-preserved
loop-place-preserved c =
    let was = c.loop-place.invariant in
    let list = c.args.list.now.items in
    let place : ℕ = c.loop-place.place in
    let is = part_is c.args.stage c.items-items.result.now list place c.min.result c.items-items.ensures c.min.ensures in
    record {
      pieces = c.send.ensures.pieces ∙ ((λ i. was.pieces i ++ (c.of.ensures.piece ∙ is) i ∷ []) ∙ sym (map-range_with_len_more (piece_at c.args.stage list) 0 place place (omega arith)));
      taken = c.send.ensures.taken ∙ was.taken;
      sent = omega (arith, c.send.ensures.sent, was.sent);
      room = c.send.ensures.room ∙ was.room;
      nodes = omega (arith, was.nodes, c.of.ensures.nodes, part_length c.items-items.result.now place c.min.result c.min.ensures, ap length c.items-items.ensures);
    }
