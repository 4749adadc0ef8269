use Rattle.std.proofs.Common.{◌≡◌, ℕ, All, get_or, take, sym, subst, arith}
use Rattle.std.proofs.lemmas.Nat.{le_or_l, le_or_r}
use Rattle.std.proofs.lemmas.List.{take_more, take_all}
use Rattle.std.proofs.lemmas.List.Elements.{All-push}
use Rattle.greedy_rules.specs.declared.flows.Item.{Item}
use Rattle.window_allocation.proofs.batches.needs_of.Goals as goal

abbrev nothing : Item
nothing = record { flow = record { src = 0; dst = 0 }; need = 0; last = 0 }

pub loop-item-preserved : goal.loop-item-preserved
loop-item-preserved c = λ none.
    let items = c.args.items.now in
    let at = c.loop-item.item-index in
    let so_far : ℕ = c.loop-item.needs in
    let next : ℕ = (get_or items at nothing).need in
    let P : Item → Type 0 = λ item. item.need ≡ 0 in
    subst (All P) (sym (take_more items at nothing c.loop-item-test.true))
    (All-push P (take at items) (get_or items at nothing) (c.loop-item.invariant (omega (arith, le_or_l so_far next, none))) (omega (arith, le_or_r so_far next, none)))

pub returns : goal.returns
returns c = λ none.
    let items = c.args.items.now in
    let at = c.loop-item.item-index in
    subst (All (λ item. item.need ≡ 0)) (take_all at items (omega (arith, c.loop-item-test.false))) (c.loop-item.invariant none)
