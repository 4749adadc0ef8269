use Rattle.slot_batches.proofs.SetAside.{items_beyond_reach_may_be_set_aside}
use Rattle.slot_batches.proofs.FrontWindow.{items_barred_by_the_front_may_be_set_aside}
use Rattle.slot_batches.proofs.AheadWindow.{items_barred_by_those_ahead_may_be_set_aside, items_barred_in_slots_may_be_set_aside}
use Rattle.slot_batches.proofs.laws.items_beyond_reach_may_be_set_aside.Goals as goal

pub returns-clause-beyond : goal.returns-clause-beyond
returns-clause-beyond c = items_beyond_reach_may_be_set_aside

pub returns-clause-barred : goal.returns-clause-barred
returns-clause-barred c = items_barred_by_the_front_may_be_set_aside

pub returns-clause-ahead : goal.returns-clause-ahead
returns-clause-ahead c = items_barred_by_those_ahead_may_be_set_aside

pub returns-clause-in_slots : goal.returns-clause-in_slots
returns-clause-in_slots c = items_barred_in_slots_may_be_set_aside
