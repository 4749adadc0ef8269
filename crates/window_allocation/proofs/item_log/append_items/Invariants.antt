use Rattle.std.proofs.Common.{◌≡◌, ◌++◌, length, drop}
use Rattle.std.specs.Prelude.{vec_capacity}
use Rattle.greedy_rules.specs.Demands.{HasEachFlowOnce, AreBelow}
use Rattle.window_allocation.specs.Logged.{ArePlaced, NeedsHaveBits, AreNew}
use Rattle.window_allocation.proofs.item_log.append_items.Given as goal

abbrev pub invariant-loop-item : goal.invariant-loop-item
invariant-loop-item l = record {
  items : l.items.items ++ drop l.item-index l.list ≡ l.fn.items.items ++ l.list;
  capacity : vec_capacity l.items ≡ vec_capacity l.fn.items;
  table : length l.at ≡ length l.fn.at;
  words : length l.words ≡ length l.fn.words;
  once : HasEachFlowOnce (drop l.item-index l.list);
  below : AreBelow l.endpoints (drop l.item-index l.list);
  new : AreNew l.items.items (drop l.item-index l.list);
  placed : ArePlaced l.endpoints l.at l.items.items;
  bits : NeedsHaveBits l.words l.items.items;
}
