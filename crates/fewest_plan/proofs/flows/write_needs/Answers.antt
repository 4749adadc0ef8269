use Rattle.std.proofs.Common.{get_or}
use Rattle.std.proofs.lemmas.Option.{slice_get-get_or}
use Rattle.greedy_rules.specs.declared.flows.Item.{Item}
use Rattle.window_allocation.proofs.NeedTable.{needs_more}
use Rattle.fewest_plan.proofs.flows.write_needs.Goals as goal

pub loop-item-preserved : goal.loop-item-preserved
loop-item-preserved c =
    let d : Item = record { flow = record { src = 0; dst = 0 }; need = 0; last = 0 } in
    let items = c.args.items.now in
    let at = c.loop-item.item-index in
    let item : Item = get_or items at d in
    rw c.place.ensures.place (needs_more c.args.endpoints items at item c.loop-item.needs c.loop-item-test.true (slice_get-get_or items at d c.loop-item-test.true) c.requires.once
    (c.requires.below at d c.loop-item-test.true) c.loop-item.invariant)
