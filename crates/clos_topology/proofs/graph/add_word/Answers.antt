use Rattle.std.proofs.Common.{◌≡◌, ◌<◌, ◌-◌, ◌++◌, ℕ, List, [], Option, length, take, bit_and, sym, ap, ◌∙◌, subst, arith, rules}
use Rattle.std.specs.Option.{IfSome}
use Rattle.std.proofs.lemmas.List.{append-nil}
use Rattle.list_facts.proofs.Bits.{kept, kept_whole, within_whole, kept_none}
use Rattle.greedy_rules.specs.declared.flows.Flow.{Flow}
use Rattle.greedy_rules.specs.SlotTable.{flows_from}
use Rattle.greedy_rules.proofs.RowLemmas.{flows_from-replicate}
use Rattle.clos_topology.specs.declared.graph.Edge.{Edge}
use Rattle.clos_topology.specs.Network.{endpoints_of}
use Rattle.clos_topology.specs.RackGraph.{rack_edges}
use Rattle.clos_topology.proofs.GraphLemmas.{InNet}
use Rattle.clos_topology.proofs.RowLemmas.{lowest_flow, edge_more, few_flows, flow_of_place}
use Rattle.clos_topology.proofs.graph.add_word.Goals as goal

pub loop-rest-init : goal.loop-rest-init
loop-rest-init c =
    let row = c.args.row.now in
    let whole : kept c.args.senders row ≡ row = kept_whole c.args.senders row c.requires.senders in
    record {
      within = within_whole c.args.senders row c.requires.senders;
      edges = ap (λ (cells : List (Option ℕ)). take c.args.before c.args.places.now ++ rack_edges c.args.net.now.hosts (flows_from c.args.from cells)) whole;
      room = omega (arith, ap (λ (cells : List (Option ℕ)). length (flows_from c.args.from cells)) whole, few_flows c.args.from row);
      length = omega arith;
    }

pub bounds-row-place : goal.bounds-row-place
bounds-row-place c = (lowest_flow c.args.from c.args.row.now c.loop-rest.rest (search rules) c.loop-rest-test.true c.loop-rest.invariant.within).below

pub overflow_cast-from : goal.overflow_cast-from
overflow_cast-from c =
    let is = lowest_flow c.args.from c.args.row.now c.loop-rest.rest (search rules) c.loop-rest-test.true c.loop-rest.invariant.within in
    omega (arith, is.below, c.requires.few)

pub add-count-requires-clause-source : goal.add-count-requires-clause-source
add-count-requires-clause-source c =
    let is = lowest_flow c.args.from c.args.row.now c.loop-rest.rest (search rules) c.loop-rest-test.true c.loop-rest.invariant.within in
    (flow_of_place (InNet c.args.net.now) c.args.from _ is.dst c.args.row.now c.requires.endpoints is.below is.sends).0

pub add-count-requires-clause-destination : goal.add-count-requires-clause-destination
add-count-requires-clause-destination c =
    let is = lowest_flow c.args.from c.args.row.now c.loop-rest.rest (search rules) c.loop-rest-test.true c.loop-rest.invariant.within in
    subst (λ (to : Option ℕ). IfSome to (λ dst. dst < endpoints_of c.args.net.now)) (sym is.sends)
    (flow_of_place (InNet c.args.net.now) c.args.from _ is.dst c.args.row.now c.requires.endpoints is.below is.sends).1

pub add-count-requires-clause-room : goal.add-count-requires-clause-room
add-count-requires-clause-room c =
    let is = lowest_flow c.args.from c.args.row.now c.loop-rest.rest (search rules) c.loop-rest-test.true c.loop-rest.invariant.within in
    omega (arith, ap length is.first, c.loop-rest.invariant.room, c.loop-rest.invariant.length, c.requires.room)

pub loop-rest-preserved : goal.loop-rest-preserved
loop-rest-preserved c =
    let hosts = c.args.net.now.hosts in
    let row = c.args.row.now in
    let rest = c.loop-rest.rest in
    let was = c.loop-rest.invariant in
    let is = lowest_flow c.args.from row rest (search rules) c.loop-rest-test.true was.within in
    let edges : List Edge = take c.loop-rest.count c.loop-rest.places in
    let left : List Edge = rack_edges hosts (flows_from c.args.from (kept (bit_and rest (rest - 1)) row)) in
    record {
      within = is.within;
      edges = ap (λ (es : List Edge). es ++ left) c.add-count.ensures.edges ∙ (edge_more hosts c.args.from row rest _ edges is ∙ was.edges);
      room = omega (arith, ap length is.first, was.room, c.add-count.ensures.within);
      length = c.add-count.auto.places ∙ was.length;
    }

pub returns-clause-edges : goal.returns-clause-edges
returns-clause-edges c =
    let row = c.args.row.now in
    let hosts = c.args.net.now.hosts in
    let edges : List Edge = take c.loop-rest.count c.loop-rest.places in
    let none : flows_from c.args.from (kept c.loop-rest.rest row) ≡ [] =
    ap (λ (word : ℕ). flows_from c.args.from (kept word row)) c.loop-rest-test.false ∙ (ap (flows_from c.args.from) (kept_none row) ∙ flows_from-replicate c.args.from (length row)) in
    sym (append-nil edges) ∙ (ap (λ (fs : List Flow). edges ++ rack_edges hosts fs) (sym none) ∙ c.loop-rest.invariant.edges)
