use Rattle.slot_batches.proofs.SettledLemmas.{are_settled}
use Rattle.slot_batches.proofs.laws.settled_items_count_as_fed.Goals as goal

pub returns : goal.returns
returns c = are_settled
