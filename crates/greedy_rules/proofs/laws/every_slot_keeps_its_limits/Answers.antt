use Rattle.greedy_rules.proofs.ScheduleLemmas.{every_slot_keeps_its_limits, every_slot_keeps_the_limits}
use Rattle.greedy_rules.proofs.laws.every_slot_keeps_its_limits.Goals as goal

pub returns-clause-each : goal.returns-clause-each
returns-clause-each c = every_slot_keeps_its_limits

pub returns-clause-all : goal.returns-clause-all
returns-clause-all c = every_slot_keeps_the_limits
