use Rattle.greedy_rules.proofs.ScheduleLemmas.{every_slot_by, every_slot_keeps_its_limits_by}
use Rattle.greedy_rules.proofs.RangeLemmas.{every_slot_in_range_by, every_slots_flows_by, every_flow_left_by}
use Rattle.greedy_rules.proofs.keys.slots_by_key_are_maximal_matchings.Goals as goal

pub returns-clause-maximal : goal.returns-clause-maximal
returns-clause-maximal c = every_slot_by

pub returns-clause-limited : goal.returns-clause-limited
returns-clause-limited c = every_slot_keeps_its_limits_by

pub returns-clause-in_range : goal.returns-clause-in_range
returns-clause-in_range c = every_slot_in_range_by

pub returns-clause-flows : goal.returns-clause-flows
returns-clause-flows c = every_slots_flows_by

pub returns-clause-left : goal.returns-clause-left
returns-clause-left c = every_flow_left_by
