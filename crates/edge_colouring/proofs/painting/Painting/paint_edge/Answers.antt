use Rattle.std.proofs.Common.{◌≡◌, ◌<◌, ◌++◌, [], ◌∷◌, Some, IsSomeAnd, length, drop, sym, ◌∙◌, subst, arith, inl, inr}
use Rattle.std.proofs.lemmas.List.{take_at}
use Rattle.std.proofs.lemmas.List.Elements.{All-push}
use Rattle.edge_colouring.specs.Painted.{AreNamed, IsPainted}
use Rattle.edge_colouring.proofs.PaintLemmas.{takes_common, begins_path, left_below, right_below, named_after}
use Rattle.edge_colouring.proofs.painting.Painting.paint_edge.Goals as goal

pub returns-then-common-most-clause-painted : goal.returns-then-common-most-clause-painted
returns-then-common-most-clause-painted c =
    λ yes. rw (c.push_reserved.ensures.items, c.put.ensures, c.put-then-common-most.ensures)
    (takes_common c.rack_of-left.result c.rack_of-right.result c.lowest_common-common.result c.requires.edge c.rack_of-left.ensures c.rack_of-right.ensures c.lowest_common-common.ensures c.if-common-most.true)

pub returns-then-a-most-clause-enough : goal.returns-then-a-most-clause-enough
returns-then-a-most-clause-enough c = λ degrees.
    let below_a = left_below c.rack_of-left.result c.lowest_free-a.result degrees c.requires.edge c.rack_of-left.ensures c.lowest_free-a.ensures in
    let below_b = right_below c.rack_of-right.result c.lowest_free-b.result degrees c.requires.edge c.rack_of-right.ensures c.lowest_free-b.ensures in
    elim c.then-a-most.either [
      | inl none ↦ absurd (omega (arith, none, below_a))
      | inr none ↦ absurd (omega (arith, none.1, below_b))
    ]

pub exchange-requires : goal.exchange-requires
exchange-requires c =
    rw (c.deref_mut.ensures.value, c.push_reserved-2.ensures.items, c.put-2.ensures, c.put-3.ensures)
    (begins_path c.rack_of-left.result c.rack_of-right.result c.lowest_common-common.result c.lowest_free-a.result c.lowest_free-b.result c.requires.edge c.rack_of-left.ensures c.rack_of-right.ensures
    c.lowest_common-common.ensures c.if-common-most.false c.lowest_free-a.ensures c.lowest_free-b.ensures c.if-a-most.false c.if-b-most.false)

pub returns-clause-painted : goal.returns-clause-painted
returns-clause-painted c =
    let most = c.args.most in
    let below_a : c.lowest_free-a.result < most = c.if-a-most.false in
    let below_b : c.lowest_free-b.result < most = c.if-b-most.false in
    let before : c.deref_mut.result.now ≡ c.args.self.now.colours.items ++ Some c.lowest_free-b.result ∷ [] = c.deref_mut.ensures.value ∙ c.push_reserved-2.ensures.items in
    let named : AreNamed most c.deref_mut.result.now = subst (AreNamed most) (sym before) (All-push (λ o. IsSomeAnd o (λ core. core < most)) c.args.self.now.colours.items (Some c.lowest_free-b.result) c.requires.edge.painted.named below_b) in
    let painted : IsPainted c.args.graph.now.edges most c.exchange.new.colours c.exchange.new.left c.exchange.new.right = record {
      named = named_after most c.lowest_free-a.result c.lowest_free-b.result c.deref_mut.result.now c.exchange.new.colours below_a below_b c.exchange.ensures.turned named;
      left_side = c.exchange.ensures.left;
      right_side = c.exchange.ensures.right;
    } in
    let whole = take_at c.exchange.new.colours (drop (length c.exchange.new.colours) c.push_reserved-2.new.self.items) c.push_reserved-2.new.self.len (omega (arith, c.exchange.ensures.turned.count, c.deref_mut.ensures.len)) in
    λ yes. rw whole painted
