use Rattle.slot_batches.proofs.IdleLemmas.{idle_list_stays}
use Rattle.slot_batches.proofs.laws.idle_lists_stay.Goals as goal

pub returns : goal.returns
returns c = idle_list_stays
