use Rattle.std.proofs.Common.{◌≡◌, ◌≤◌, ◌+◌, ◌++◌, length, drop}
use Rattle.std.specs.Prelude.{vec_len, vec_capacity}
use Rattle.greedy_rules.specs.Demands.{by_key}
use Rattle.greedy_rules.specs.Examples.{remaining}
use Rattle.fewest_order.specs.Places.{joined}
use Rattle.fewest_order.proofs.places.put_among.Given as goal

abbrev pub invariant-loop-item : goal.invariant-loop-item
invariant-loop-item l = record {
  within : l.from ≤ length l.standing;
  sorted : l.items.items ++ by_key remaining (joined l.side (drop l.from l.standing) (drop l.item-index l.others)) ≡ l.fn.items.items ++ by_key remaining (joined l.side l.standing l.others);
  count : vec_len l.items ≡ vec_len l.fn.items + (l.from + l.item-index);
  capacity : vec_capacity l.fn.items ≤ vec_capacity l.items;
}
