use Rattle.std.proofs.Common.{◌≡◌, ◌<◌, ◌≤◌, ◌+◌, ◌++◌, ℕ, [], length, take, drop, set, get_or, sym, ap, ◌∙◌, subst, arith, List}
use Rattle.std.proofs.lemmas.List.Elements.{All-set}
use Rattle.std.proofs.lemmas.List.{take_all, drop_all, append-nil}
use Rattle.greedy_rules.specs.declared.flows.Flow.{Flow}
use Rattle.greedy_rules.specs.declared.flows.Item.{Item}
use Rattle.greedy_rules.specs.declared.limits.Limits.{Limits}
use Rattle.greedy_rules.specs.Slot.{Bar, offered, chosen_after}
use Rattle.greedy_rules.specs.Limits.{is_barred}
use Rattle.greedy_rules.specs.SlotTable.{flows_from, AreCells}
use Rattle.greedy_rules.specs.Walk.{turn, walk, HavePlaces}
use Rattle.greedy_rules.proofs.FillLemmas.{walk_is, turn_more, chosen_more, turned_below}
use Rattle.greedy_rules.proofs.OnceLemmas.{InRange}
use Rattle.greedy_rules.proofs.plain.fill_slot.Goals as goal

pub returns-clause-items : goal.returns-clause-items
returns-clause-items c =
    let items = c.loop-item.items in
    let i = c.loop-item.item-index in
    let bar : Bar = is_barred c.args.marks.now.limits in
    let ended : length items ≤ i = omega arith in
    let slot = flows_from 0 c.loop-item.sends in
    sym (append-nil items)
    ∙ (sym (ap (λ (xs : List Item). xs ++ []) (take_all i items ended))
    ∙ (sym (ap (λ (xs : List Item). take i items ++ walk bar c.args.number slot xs) (drop_all i items ended))
    ∙ (c.loop-item.invariant.walked ∙ walk_is bar c.args.number c.args.items.now c.requires.once)))

pub loop-item-preserved : goal.loop-item-preserved
loop-item-preserved c =
    let d : Item = record { flow = record { src = 0; dst = 0 }; need = 0; last = 0 } in
    let items = c.loop-item.items in
    let sends = c.loop-item.sends in
    let i : ℕ = c.loop-item.item-index in
    let number : ℕ = c.args.number in
    let endpoints : ℕ = length c.args.sends.now in
    let bar : Bar = is_barred c.args.marks.now.limits in
    let slot : List Flow = flows_from 0 sends in
    let after = c.offer.new in
    let keeps = c.loop-item.invariant in
    let below : i < length items = omega arith in
    let item : after.item ≡ turn bar number slot (get_or items i d) =
    c.offer.ensures.item ∙ ap (λ (l : Limits). turn (is_barred l) number slot (get_or items i d)) keeps.limits in
    let grown : flows_from 0 after.sends ≡ offered bar slot (get_or items i d) =
    c.offer.ensures.slot ∙ ap (λ (l : Limits). offered (is_barred l) slot (get_or items i d)) keeps.limits in
    let rest : List Item = drop (i + 1) (set items i after.item) in
    record {
      chosen = ap (λ (s : List Flow). chosen_after bar s rest) grown ∙ (chosen_more bar slot items i d after.item below ∙ keeps.chosen);
      walked = ap (λ (s : List Flow). take (i + 1) (set items i after.item) ++ walk bar number s rest) grown ∙ (turn_more bar number slot items i d after.item below item ∙ keeps.walked);
      below = All-set (InRange endpoints) items i after.item (subst (InRange endpoints) (sym item) (turned_below endpoints bar number slot (get_or items i d) (keeps.below i d below))) keeps.below;
      row = λ given.
          subst (λ (n : ℕ). AreCells n after.sends) c.loop-item.auto.sends (c.offer.ensures.row (subst (λ (n : ℕ). AreCells n sends) (sym c.loop-item.auto.sends) (keeps.row given)));
      limits = c.offer.ensures.limits ∙ keeps.limits;
      places = subst (λ (n : ℕ). HavePlaces n after.marks) c.loop-item.auto.sends c.offer.ensures.places;
      marks = c.offer.ensures.marks;
    }
