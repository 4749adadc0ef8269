use Rattle.slot_batches.proofs.OpenedFlows.{taken_up_all}
use Rattle.slot_batches.proofs.laws.feeding_applies_the_batch.Goals as goal

pub returns : goal.returns
returns c = taken_up_all
