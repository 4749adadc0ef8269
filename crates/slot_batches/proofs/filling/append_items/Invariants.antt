use Rattle.std.proofs.Common.{◌≡◌, ◌++◌, take, vec_capacity}
use Rattle.slot_batches.proofs.filling.append_items.Given as goal

abbrev pub invariant-loop-item : goal.invariant-loop-item
invariant-loop-item l = record {
  items : l.waiting.items ≡ l.fn.waiting.items ++ take l.item-index l.items;
  capacity : vec_capacity l.waiting ≡ vec_capacity l.fn.waiting;
}
