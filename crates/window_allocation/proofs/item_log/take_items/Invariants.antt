use Rattle.std.proofs.Common.{◌≡◌, ◌+◌, ◌++◌, length, drop}
use Rattle.window_allocation.specs.Logged.{items_at}
use Rattle.window_allocation.proofs.item_log.take_items.Given as goal

abbrev pub invariant-loop-at : goal.invariant-loop-at
invariant-loop-at l = record {
  found : l.found.items ++ items_at l.items (drop l.at-index l.places) ≡ l.fn.found.items ++ items_at l.items l.places;
  room : length l.found.items + l.found.spare ≡ length l.fn.found.items + l.fn.found.spare;
}
