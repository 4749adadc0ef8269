use Rattle.std.proofs.Common.{◌<◌, length, subst, arith}
use Rattle.std.proofs.lemmas.Option.{get_or_from_slice_get}
use Rattle.greedy_rules.specs.declared.flows.Item.{Item}
use Rattle.window_allocation.proofs.NeedTable.{needs_more}
use Rattle.window_allocation.proofs.needs.write_needs.Goals as goal

pub loop-at-preserved : goal.loop-at-preserved
loop-at-preserved c =
    let items = c.args.list.now.items in
    let item = c.item-item.result in
    let below : c.loop-at.at < length items = omega (arith, c.len-at-end.ensures) in
    let P : Item → Type 0 = λ i. (i.flow.src < c.args.endpoints) × (i.flow.dst < c.args.endpoints) in
    let within : P item = subst P (get_or_from_slice_get items c.loop-at.at item item c.item-item.ensures) (c.requires.below c.loop-at.at item below) in
    rw c.place.ensures.place (needs_more c.args.endpoints items c.loop-at.at item c.loop-at.needs below c.item-item.ensures c.requires.once within c.loop-at.invariant)
