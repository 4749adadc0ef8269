use Rattle.greedy_rules.proofs.RangeLemmas.{every_slot_in_range}
use Rattle.greedy_rules.proofs.laws.every_slot_is_in_range.Goals as goal

pub returns : goal.returns
returns c = every_slot_in_range
