use Rattle.std.proofs.Common.{◌≡◌, ◌++◌, List, [], All, length, min, take, drop, sym, ap, ◌∙◌, subst, arith}
use Rattle.std.proofs.lemmas.List.{take_at}
use Rattle.greedy_rules.specs.declared.flows.Flow.{Flow}
use Rattle.greedy_rules.specs.Schedule.{slot_in}
use Rattle.greedy_rules.specs.SlotTable.{IsSlotOf}
use Rattle.greedy_rules.specs.Senders.{AreSendersOf}
use Rattle.clos_topology.specs.declared.graph.Edge.{Edge}
use Rattle.clos_topology.specs.RackGraph.{rack_edges, IsGraphOf}
use Rattle.clos_topology.proofs.GraphLemmas.{InNet, graph_of_slot}
use Rattle.clos_topology.proofs.RowLemmas.{row_of_slot}
use Rattle.clos_topology.proofs.graph.RackGraph.load.Goals as goal

pub add_all-self-inside-requires-clause-senders : goal.add_all-self-inside-requires-clause-senders
add_all-self-inside-requires-clause-senders c =
    let row = c.row-row.result.now in
    let whole = row_of_slot c.args.net.now c.min-sources.result row (slot_in c.args.slots.now.slots c.args.slot) (c.min-sources.ensures ∙ ap (min (length row)) c.endpoints-2.ensures.number) c.row-row.ensures.flows c.requires.endpoints in
    subst (λ (flows : List Flow). AreSendersOf flows c.senders.result.now) (sym whole) c.senders.ensures.bits

pub add_all-self-inside-requires-clause-endpoints : goal.add_all-self-inside-requires-clause-endpoints
add_all-self-inside-requires-clause-endpoints c =
    let row = c.row-row.result.now in
    let whole = row_of_slot c.args.net.now c.min-sources.result row (slot_in c.args.slots.now.slots c.args.slot) (c.min-sources.ensures ∙ ap (min (length row)) c.endpoints-2.ensures.number) c.row-row.ensures.flows c.requires.endpoints in
    subst (λ (flows : List Flow). All (InNet c.args.net.now) flows) (sym whole) c.requires.endpoints

pub returns-clause-edges : goal.returns-clause-edges
returns-clause-edges c =
    let row = c.row-row.result.now in
    let whole = row_of_slot c.args.net.now c.min-sources.result row (slot_in c.args.slots.now.slots c.args.slot) (c.min-sources.ensures ∙ ap (min (length row)) c.endpoints-2.ensures.number) c.row-row.ensures.flows c.requires.endpoints in
    let places : List Edge = c.add_all-self-inside.new.places in
    let kept : take c.self.inside.places.len (places ++ drop (length places) c.self.inside.places.items) ≡ places =
    take_at places (drop (length places) c.self.inside.places.items) c.self.inside.places.len (omega (arith, c.add_all-self-inside.auto.places, c.deref_mut.ensures.len)) in
    ap (take c.add_all-self-inside.result) kept ∙ (c.add_all-self-inside.ensures.edges ∙ ap (rack_edges c.args.net.now.hosts) whole)

pub returns-clause-graph : goal.returns-clause-graph
returns-clause-graph c =
    let slot = slot_in c.args.slots.now.slots c.args.slot in
    let each : IsSlotOf c.args.slots.now.endpoints slot = c.slots.ensures.each c.args.slot [] c.requires.slot_in_range in
    subst (IsGraphOf c.args.net.now) (sym (returns-clause-edges c)) (graph_of_slot c.args.net.now slot c.endpoints.ensures.limits each.rising c.requires.endpoints)
