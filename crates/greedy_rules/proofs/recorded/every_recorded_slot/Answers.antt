use Rattle.greedy_rules.proofs.RecordedLemmas.{every_recorded_slot}
use Rattle.greedy_rules.proofs.recorded.every_recorded_slot.Goals as goal

pub returns : goal.returns
returns c = every_recorded_slot
