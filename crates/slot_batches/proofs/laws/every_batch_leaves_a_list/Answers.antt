use Rattle.slot_batches.proofs.NextList.{every_batch_leaves_a_list, every_batch_keeps_its_flows}
use Rattle.slot_batches.proofs.laws.every_batch_leaves_a_list.Goals as goal

pub returns-clause-next : goal.returns-clause-next
returns-clause-next c = every_batch_leaves_a_list

pub returns-clause-flows : goal.returns-clause-flows
returns-clause-flows c = every_batch_keeps_its_flows
