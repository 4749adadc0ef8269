use Rattle.std.proofs.Common.{◌≡◌, ◌<◌, ◌+◌, ℕ, length, Some, sym, ap, ◌∙◌, subst, arith}
use Rattle.crossbeam_queue.specs.Passes.{view}
use Rattle.slot_batches.specs.Pieces.{piece_count}
use Rattle.ring_core.specs.Streams.{IsPieceAt}
use Rattle.ring_core.proofs.CutLemmas.{part_is, part_length}
use Rattle.alloc_pipeline.specs.declared.parcel.View.{View}
use Rattle.alloc_pipeline.specs.Rules.{into_of, giving}
use Rattle.alloc_pipeline.proofs.ListEnds.{first_piece}
use Rattle.alloc_pipeline.proofs.ends.give_list.Goals as goal

pub loop-place-init : goal.loop-place-init
loop-place-init g c = record { queue = c.requires.queue; given = c.requires.giving; nodes = omega arith }

pub of-piece-requires-clause-nodes : goal.of-piece-requires-clause-nodes
of-piece-requires-clause-nodes g c =
    let was = c.loop-place.invariant in
    omega (arith, was.nodes, part_length c.items-items.result.now c.loop-place.place c.min.result c.min.ensures, ap length c.items-items.ensures, c.requires.nodes)

pub push-requires-clause-next : goal.push-requires-clause-next
push-requires-clause-next g c =
    let was = c.loop-place.invariant in
    let place : ℕ = c.loop-place.place in
    let list = c.args.list.now.items in
    let is = part_is 0 c.items-items.result.now list place c.min.result c.items-items.ensures c.min.ensures in
    let below : place < piece_count list = omega (arith, c.loop-place-test.true, c.loop-place.auto.place-end, c.count_pieces-count.ensures, ap piece_count c.items-items.ensures) in
    subst (λ (v : View). IsPieceAt (into_of v.window) v.position c.of-piece.result) (sym was.given)
    (first_piece (view c.args.pass.now).window list place c.requires.first below ∙ ap Some (sym (c.of-piece.ensures.piece ∙ is)))

pub loop-place-preserved : goal.loop-place-preserved
loop-place-preserved g c =
    let was = c.loop-place.invariant in
    let place : ℕ = c.loop-place.place in
    record {
      queue = c.push.ensures.queue;
      given = c.push.ensures.given ∙ ap (λ (v : View). giving v.window (v.position + 1) v.moved) was.given;
      nodes = omega (arith, was.nodes, c.of-piece.ensures.nodes, part_length c.items-items.result.now place c.min.result c.min.ensures, ap length c.items-items.ensures);
    }

pub returns-clause-given : goal.returns-clause-given
returns-clause-given g c =
    let count : c.loop-place.place ≡ piece_count c.args.list.now.items = omega (arith, c.loop-place-test.false, c.loop-place.auto.place-end, c.count_pieces-count.ensures, ap piece_count c.items-items.ensures) in
    c.loop-place.invariant.given ∙ ap (λ (n : ℕ). giving (view c.args.pass.now).window n (view c.args.pass.now).moved) count

pub returns-clause-nodes : goal.returns-clause-nodes
returns-clause-nodes g c =
    omega (arith, c.loop-place.invariant.nodes, c.loop-place-test.false, c.loop-place.auto.place-end, c.count_pieces-count.ensures, ap length c.items-items.ensures)
