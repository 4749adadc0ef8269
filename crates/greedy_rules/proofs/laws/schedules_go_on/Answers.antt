use Rattle.greedy_rules.proofs.FrontLemmas.{schedules_go_on, fronts_are_fronts, every_batch_has_its_slots, slots_of_a_batch}
use Rattle.greedy_rules.proofs.laws.schedules_go_on.Goals as goal

pub returns-clause-more : goal.returns-clause-more
returns-clause-more c = schedules_go_on

pub returns-clause-front : goal.returns-clause-front
returns-clause-front c = fronts_are_fronts

pub returns-clause-count : goal.returns-clause-count
returns-clause-count c = every_batch_has_its_slots

pub returns-clause-each : goal.returns-clause-each
returns-clause-each c = slots_of_a_batch
