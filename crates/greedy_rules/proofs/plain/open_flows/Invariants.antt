use Rattle.std.proofs.Common.{◌≡◌, ◌+◌, ◌++◌, take, length}
use Rattle.greedy_rules.specs.Demands.{opened}
use Rattle.greedy_rules.proofs.plain.open_flows.Given as goal

abbrev pub invariant-loop-at : goal.invariant-loop-at
invariant-loop-at l = record {
  items : l.list.items ≡ l.initial.list.items ++ opened (take l.at l.batch.entries);
  spare : l.list.spare + length (opened (take l.at l.batch.entries)) ≡ l.initial.list.spare;
}
