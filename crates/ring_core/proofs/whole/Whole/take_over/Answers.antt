use Rattle.std.proofs.Common.{◌≡◌, List, refl, sym, ap, ◌∙◌, arith}
use Rattle.greedy_rules.specs.declared.flows.Item.{Item}
use Rattle.greedy_rules.specs.Demands.{Demands}
use Rattle.slot_batches.specs.Pieces.{pieces}
use Rattle.ring_core.specs.States.{EdgeState}
use Rattle.ring_core.specs.Edges.{room_of}
use Rattle.ring_core.specs.Wholes.{with_parts}
use Rattle.ring_core.proofs.StartLemmas.{own_zero}
use Rattle.ring_core.proofs.WholeLemmas.{count_is, sent_into, parts_set}
use Rattle.ring_core.proofs.whole.Whole.take_over.Goals as goal

pub returns-then-room-clause-edges : goal.returns-then-room-clause-edges
returns-then-room-clause-edges c = λ workers some.
    let es : List EdgeState = c.args.edges.now in
    let list : List Item = c.args.list.now.items in
    let edge : EdgeState = c.requires.first.0 in
    let told = c.requires.first in
    let same : c.swap.new.x.items ≡ list = ap (λ (d : Demands). d.items) c.swap.ensures.x_after in
    record {
      edge = sent_into edge (pieces 0 list);
      edges_are = (λ i. with_parts (own_zero workers some i) (pieces 0 (same i)) es) ∙ sym (parts_set 0 (pieces 0 list) es edge (sent_into edge (pieces 0 list)) told.1 refl);
      pieces_are = refl;
      none_taken = told.3;
      sent_is = omega (arith, told.4, count_is 0 list);
      room_is = sym (ap room_of told.1);
    }
