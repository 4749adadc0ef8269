use Rattle.std.proofs.Common.{◌≡◌, map, take, drop}
use Rattle.greedy_rules.specs.Demands.{with_batch}
use Rattle.greedy_rules.proofs.plain.apply_entries.Given as goal

abbrev pub invariant-loop-item : goal.invariant-loop-item
invariant-loop-item l = record {
  done : take l.item-index l.items ≡ map (with_batch l.batch.entries) (take l.item-index l.initial.items);
  left : drop l.item-index l.items ≡ drop l.item-index l.initial.items;
}
