use Rattle.slot_batches.proofs.FedLemmas.{lists_may_be_fed}
use Rattle.slot_batches.proofs.laws.lists_may_be_fed.Goals as goal

pub returns : goal.returns
returns c = lists_may_be_fed
