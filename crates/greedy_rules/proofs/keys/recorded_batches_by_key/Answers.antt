use Rattle.greedy_rules.proofs.RecordedLemmas.{may_be_applied_by, later_may_be_applied_by, every_recorded_slot_by}
use Rattle.greedy_rules.proofs.keys.recorded_batches_by_key.Goals as goal

pub returns-clause-all : goal.returns-clause-all
returns-clause-all c = may_be_applied_by

pub returns-clause-later : goal.returns-clause-later
returns-clause-later c = later_may_be_applied_by

pub returns-clause-slots : goal.returns-clause-slots
returns-clause-slots c = every_recorded_slot_by
