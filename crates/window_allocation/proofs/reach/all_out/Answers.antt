use Rattle.std.proofs.Common.{◌*◌, take, get_or, All, sym, subst, arith}
use Rattle.std.proofs.lemmas.List.{take_more, take_all}
use Rattle.std.proofs.lemmas.List.Elements.{All-push}
use Rattle.greedy_rules.specs.declared.flows.Item.{Item}
use Rattle.window_allocation.specs.Reach.{IsNamed}
use Rattle.window_allocation.proofs.reach.all_out.Goals as goal

abbrev nothing : Item
nothing = record { flow = record { src = 0; dst = 0 }; need = 0; last = 0 }

pub is_out-requires : goal.is_out-requires
is_out-requires c = c.requires.below c.loop-item.item-index nothing c.loop-item-test.true

pub loop-item-preserved : goal.loop-item-preserved
loop-item-preserved c =
    let items = c.args.items.now in
    let at = c.loop-item.item-index in
    let P : Item → Type 0 = IsNamed c.args.words.now (c.args.count * c.args.b) in
    subst (All P) (sym (take_more items at nothing c.loop-item-test.true))
    (All-push P (take at items) (get_or items at nothing) c.loop-item.invariant (c.is_out.ensures c.if-not-is_out.false (c.args.count * c.args.b) c.requires.all))

pub returns : goal.returns
returns c = λ none.
    let items = c.args.items.now in
    subst (All (IsNamed c.args.words.now (c.args.count * c.args.b))) (take_all c.loop-item.item-index items (omega (arith, c.loop-item-test.false))) c.loop-item.invariant
