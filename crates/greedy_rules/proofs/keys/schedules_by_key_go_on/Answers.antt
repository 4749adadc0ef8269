use Rattle.greedy_rules.proofs.FrontLemmas.{schedules_go_on_by, fronts_are_fronts_by, every_batch_has_its_slots_by, slots_of_a_batch_by}
use Rattle.greedy_rules.proofs.keys.schedules_by_key_go_on.Goals as goal

pub returns-clause-more : goal.returns-clause-more
returns-clause-more c = schedules_go_on_by

pub returns-clause-front : goal.returns-clause-front
returns-clause-front c = fronts_are_fronts_by

pub returns-clause-count : goal.returns-clause-count
returns-clause-count c = every_batch_has_its_slots_by

pub returns-clause-each : goal.returns-clause-each
returns-clause-each c = slots_of_a_batch_by
