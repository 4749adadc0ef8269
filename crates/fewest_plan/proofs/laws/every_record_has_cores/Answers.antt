use Rattle.fewest_plan.proofs.CleanSlots.{record_has_cores}
use Rattle.fewest_plan.proofs.laws.every_record_has_cores.Goals as goal

pub returns : goal.returns
returns c = λ key. record_has_cores key (c.recorded_batches_by_key.ensures.slots key) c.limits_are_degrees.ensures c.every_matching_has_clean_cores.ensures
