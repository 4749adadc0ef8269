use Rattle.std.proofs.Common.{◌≡◌, length, take, drop}
use Rattle.greedy_rules.specs.Demands.{opened}
use Rattle.slot_batches.proofs.chains.open_nodes.Given as goal

abbrev pub invariant-loop-at : goal.invariant-loop-at
invariant-loop-at l = record {
  loose : length l.loose ≡ length (opened (take l.at l.batch.entries));
  spare : l.spare ≡ drop (length (opened (take l.at l.batch.entries))) l.fn.spare;
}
