use Rattle.greedy_rules.proofs.BatchLaws.{every_slot_of_a_batch}
use Rattle.greedy_rules.proofs.laws.every_slot_of_a_batch_is_a_maximal_matching.Goals as goal

pub returns : goal.returns
returns c = every_slot_of_a_batch
