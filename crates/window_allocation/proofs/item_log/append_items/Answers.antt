use Rattle.std.proofs.Common.{◌≡◌, ◌<◌, ◌++◌, [], ◌∷◌, ◌+◌, List, length, drop, get_or, sym, ap, ◌∙◌, subst, arith}
use Rattle.std.proofs.lemmas.List.{drop_more, length-append, length-drop, append_assoc}
use Rattle.std.proofs.lemmas.List.Elements.{All-tail}
use Rattle.list_facts.proofs.Pairs.{AllPairs-tail}
use Rattle.greedy_rules.specs.declared.flows.Item.{Item}
use Rattle.greedy_rules.specs.Demands.{HasEachFlowOnce, AreBelow}
use Rattle.window_allocation.specs.Logged.{AreNew}
use Rattle.window_allocation.proofs.LogWeaving.{first_is_new, others_are_new, Other}
use Rattle.window_allocation.proofs.item_log.append_items.Goals as goal

abbrev nothing : Item
nothing = record { flow = record { src = 0; dst = 0 }; need = 0; last = 0 }

pub push_item-requires-clause-new : goal.push_item-requires-clause-new
push_item-requires-clause-new c =
    let was = c.loop-item in
    let list = c.args.list.now in
    let at = was.item-index in
    first_is_new was.items.items (get_or list at nothing) (drop (at + 1) list) (subst (AreNew was.items.items) (drop_more list at nothing c.loop-item-test.true) was.invariant.new)

pub push_item-requires-clause-room : goal.push_item-requires-clause-room
push_item-requires-clause-room c =
    let was = c.loop-item in
    let list = c.args.list.now in
    let old = c.args.items.now in
    omega (
      arith,
      c.requires.room,
      ap length was.invariant.items,
      length-append was.items.items (drop was.item-index list),
      length-append old.items list,
      length-drop was.item-index list,
      was.invariant.capacity,
      was.items.ok.0,
      old.ok.0,
      c.loop-item-test.true,
    )

pub push_item-requires-clause-fits : goal.push_item-requires-clause-fits
push_item-requires-clause-fits c =
    let was = c.loop-item in
    let list = c.args.list.now in
    let old = c.args.items.now in
    omega (
      arith,
      c.requires.fits,
      ap length was.invariant.items,
      length-append was.items.items (drop was.item-index list),
      length-append old.items list,
      length-drop was.item-index list,
      was.items.ok.0,
      old.ok.0,
      c.loop-item-test.true,
    )

pub push_item-requires-clause-long : goal.push_item-requires-clause-long
push_item-requires-clause-long c =
    let was = c.loop-item in
    let list = c.args.list.now in
    let old = c.args.items.now in
    omega (
      arith,
      c.requires.long,
      was.invariant.words,
      ap length was.invariant.items,
      length-append was.items.items (drop was.item-index list),
      length-append old.items list,
      length-drop was.item-index list,
      was.items.ok.0,
      old.ok.0,
      c.loop-item-test.true,
    )

pub loop-item-preserved : goal.loop-item-preserved
loop-item-preserved c =
    let was = c.loop-item in
    let list = c.args.list.now in
    let at = was.item-index in
    let item : Item = get_or list at nothing in
    let later : List Item = drop (at + 1) list in
    let next : drop at list ≡ item ∷ later = drop_more list at nothing c.loop-item-test.true in
    let once : HasEachFlowOnce (item ∷ later) = subst HasEachFlowOnce next was.invariant.once in
    let Below : Item → Type 0 = λ x. (x.flow.src < c.args.endpoints) × (x.flow.dst < c.args.endpoints) in
    record {
      items = ap (λ (xs : List Item). xs ++ later) c.push_item.ensures.items
          ∙ (append_assoc was.items.items (item ∷ []) later ∙ (ap (λ (xs : List Item). was.items.items ++ xs) (sym next) ∙ was.invariant.items));
      capacity = c.push_item.ensures.capacity ∙ was.invariant.capacity;
      table = c.push_item.ensures.table ∙ was.invariant.table;
      words = c.push_item.ensures.words ∙ was.invariant.words;
      once = AllPairs-tail Other item later once;
      below = All-tail Below item later (subst (AreBelow c.args.endpoints) next was.invariant.below);
      new = subst (λ (xs : List Item). AreNew xs later) (sym c.push_item.ensures.items) (others_are_new was.items.items item later once (subst (AreNew was.items.items) next was.invariant.new));
      placed = c.push_item.ensures.placed;
      bits = c.push_item.ensures.bits;
    }
