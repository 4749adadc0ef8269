use Rattle.std.proofs.Common.{rules, ◌≡◌, ℕ, List, length, set, ap, ◌∙◌, arith}
use Rattle.std.proofs.lemmas.List.{with_items_is}
use Rattle.greedy_rules.specs.declared.flows.Item.{Item}
use Rattle.greedy_rules.specs.Demands.{Demands}
use Rattle.greedy_rules.specs.Slot.{Bar, greedy_slot}
use Rattle.greedy_rules.specs.declared.limits.Limits.{Limits}
use Rattle.greedy_rules.specs.Limits.{is_barred}
use Rattle.greedy_rules.specs.Allocation.{after_slot}
use Rattle.greedy_rules.specs.SlotTable.{flows_from}
use Rattle.greedy_rules.proofs.RowLemmas.{flows_from-replicate}
use Rattle.greedy_rules.proofs.plain.fill_place.Goals as goal

pub fill_slot-requires-clause-empty : goal.fill_slot-requires-clause-empty
fill_slot-requires-clause-empty c = ap (flows_from 0) (c.fill.ensures.after (λ y cloned. search rules)) ∙ flows_from-replicate 0 (length c.args.sends.now)

pub returns-clause-slots : goal.returns-clause-slots
returns-clause-slots c =
    let bar : Bar = is_barred c.args.marks.now.limits in
    let chosen : flows_from 0 c.fill_slot.new.sends ≡ greedy_slot bar c.args.list.now.items =
    c.fill_slot.ensures.slot
    ∙ (ap (λ (l : Limits). greedy_slot (is_barred l) c.deref_mut.result.now) c.clear.ensures.limits
    ∙ (ap (greedy_slot bar) c.deref_mut.ensures.value ∙ ap (λ (l : Demands). greedy_slot bar l.items) c.list.view_is)) in
    c.write.ensures.slots ∙ ap (set c.args.out.now.slots c.args.place) chosen

pub returns-clause-items : goal.returns-clause-items
returns-clause-items c =
    let items : List Item = c.fill_slot.new.items in
    let number : ℕ = c.args.number in
    let bar : Bar = is_barred c.args.marks.now.limits in
    let kept : length items ≡ c.list.inside.items.len = omega (arith, c.fill_slot.auto.items, c.deref_mut.ensures.len) in
    with_items_is c.list.inside.items items kept
    ∙ (c.fill_slot.ensures.items
    ∙ (ap (λ (l : Limits). after_slot (is_barred l) number c.deref_mut.result.now) c.clear.ensures.limits
    ∙ (ap (after_slot bar number) c.deref_mut.ensures.value ∙ ap (λ (l : Demands). after_slot bar number l.items) c.list.view_is)))
