use Rattle.greedy_rules.proofs.LeftOut.{every_slot_is_filled_in_order, every_batch_keeps_its_order}
use Rattle.greedy_rules.proofs.laws.every_slot_is_filled_in_order.Goals as goal

pub returns-clause-slot : goal.returns-clause-slot
returns-clause-slot c = every_slot_is_filled_in_order

pub returns-clause-batch : goal.returns-clause-batch
returns-clause-batch c = every_batch_keeps_its_order
