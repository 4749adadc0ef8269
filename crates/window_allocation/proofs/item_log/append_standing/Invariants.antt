use Rattle.std.proofs.Common.{◌≡◌, ◌+◌, ◌++◌, length, drop}
use Rattle.window_allocation.specs.Logged.{standing}
use Rattle.window_allocation.proofs.item_log.append_standing.Given as goal

abbrev pub invariant-loop-item : goal.invariant-loop-item
invariant-loop-item l = record {
  items : l.list.items ++ standing (drop l.item-index l.items) ≡ l.fn.list.items ++ standing l.items;
  room : length l.list.items + l.list.spare ≡ length l.fn.list.items + l.fn.list.spare;
}
