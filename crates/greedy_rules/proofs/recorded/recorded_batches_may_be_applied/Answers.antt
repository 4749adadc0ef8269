use Rattle.greedy_rules.proofs.RecordedLemmas.{may_be_applied, later_may_be_applied, every_front_is_recorded}
use Rattle.greedy_rules.proofs.recorded.recorded_batches_may_be_applied.Goals as goal

pub returns-clause-all : goal.returns-clause-all
returns-clause-all c = may_be_applied

pub returns-clause-later : goal.returns-clause-later
returns-clause-later c = later_may_be_applied

pub returns-clause-front : goal.returns-clause-front
returns-clause-front c = every_front_is_recorded
