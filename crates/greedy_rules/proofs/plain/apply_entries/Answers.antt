use Rattle.std.proofs.Common.{◌<◌, ◌^◌, length, sym, subst, arith}
use Rattle.greedy_rules.specs.declared.flows.Item.{Item}
use Rattle.greedy_rules.specs.Batches.{entry_of}
use Rattle.greedy_rules.specs.Demands.{need_with, with_batch}
use Rattle.list_facts.proofs.Turns.{left_at, done_more, left_more}
use Rattle.greedy_rules.proofs.plain.apply_entries.Goals as goal

pub apply_entry-requires : goal.apply_entry-requires
apply_entry-requires c =
    let d : Item = record { flow = record { src = 0; dst = 0 }; need = 0; last = 0 } in
    let P : Item → Type 0 = λ item. need_with (entry_of c.args.batch.now.entries item.flow) item.need < 2 ^ 32 in
    let within : c.loop-item.item-index < length c.args.items.now = omega arith in
    subst P (sym (left_at c.loop-item.items c.args.items.now c.loop-item.item-index d c.loop-item.invariant.left)) (c.requires c.loop-item.item-index d within)

pub loop-item-preserved : goal.loop-item-preserved
loop-item-preserved c =
    let items = c.loop-item.items in
    let initial = c.args.items.now in
    let i = c.loop-item.item-index in
    let d : Item = record { flow = record { src = 0; dst = 0 }; need = 0; last = 0 } in
    let below : i < length items = omega arith in
    let within : i < length initial = omega arith in
    record {
      done = done_more (with_batch c.args.batch.now.entries) items initial i d c.apply_entry.new.item below within c.loop-item.invariant.done c.loop-item.invariant.left c.apply_entry.ensures;
      left = left_more items initial i c.apply_entry.new.item below within c.loop-item.invariant.left;
    }
