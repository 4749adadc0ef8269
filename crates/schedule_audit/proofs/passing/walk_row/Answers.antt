use Rattle.std.proofs.Common.{◌++◌, subst, sym}
use Rattle.clos_topology.specs.Network.{Network, endpoints_of}
use Rattle.greedy_rules.specs.SlotTable.{flows_from}
use Rattle.schedule_audit.specs.Walked.{in_slot, FlowsAreBetween}
use Rattle.schedule_audit.proofs.WalkSteps.{same-text}
use Rattle.schedule_audit.proofs.passing.walk_row.Goals as goal

pub hold_row-requires-clause-stands : goal.hold_row-requires-clause-stands
hold_row-requires-clause-stands c = let (visited, before, stands) = c.requires.stands in (visited, visited, before, stands)

pub count_row-requires-clause-flows : goal.count_row-requires-clause-flows
count_row-requires-clause-flows c = subst (λ (net : Network). FlowsAreBetween (endpoints_of net) (flows_from 0 c.args.row.now)) (sym c.hold_row.ensures.text.net) c.requires.flows

pub count_row-requires-clause-stands : goal.count_row-requires-clause-stands
count_row-requires-clause-stands c =
    let (visited, before, stands) = c.requires.stands in
    (visited ++ in_slot c.args.slot (flows_from 0 c.args.row.now), visited, before, c.hold_row.ensures.stands visited visited before stands)

pub returns-clause-stands : goal.returns-clause-stands
returns-clause-stands c = λ visited before stands.
    c.count_row.ensures.stands (visited ++ in_slot c.args.slot (flows_from 0 c.args.row.now)) visited before (c.hold_row.ensures.stands visited visited before stands)

pub returns-clause-text : goal.returns-clause-text
returns-clause-text c = same-text c.args.judges.now c.hold_row.new.judges c.count_row.new.judges c.hold_row.ensures.text c.count_row.ensures.text
