use Rattle.slot_batches.proofs.SetAside.{items_may_be_set_aside, listed_flows_are_open}
use Rattle.slot_batches.proofs.laws.items_may_be_set_aside.Goals as goal

pub returns-clause-woven : goal.returns-clause-woven
returns-clause-woven c = items_may_be_set_aside

pub returns-clause-listed : goal.returns-clause-listed
returns-clause-listed c = listed_flows_are_open
