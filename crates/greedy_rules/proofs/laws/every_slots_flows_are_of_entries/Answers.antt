use Rattle.greedy_rules.proofs.RangeLemmas.{every_slots_flows, every_flow_left}
use Rattle.greedy_rules.proofs.laws.every_slots_flows_are_of_entries.Goals as goal

pub returns-clause-slots : goal.returns-clause-slots
returns-clause-slots c = every_slots_flows

pub returns-clause-left : goal.returns-clause-left
returns-clause-left c = every_flow_left
