use Rattle.window_allocation.proofs.CleanSlots.{record_has_cores}
use Rattle.window_allocation.proofs.laws.every_record_has_cores.Goals as goal

pub returns : goal.returns
returns c = record_has_cores c.every_recorded_slot.ensures c.limits_are_degrees.ensures c.every_matching_has_clean_cores.ensures
