use Rattle.greedy_rules.proofs.ScheduleLemmas.{every_slot}
use Rattle.greedy_rules.proofs.laws.every_slot_is_a_maximal_matching.Goals as goal

pub returns : goal.returns
returns c = every_slot
