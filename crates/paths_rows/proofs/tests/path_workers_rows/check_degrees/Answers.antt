use Rattle.std.proofs.Common.{◌≡◌, ℕ, List, [], sym, ◌∙◌, subst, arith, inl, inr}
use Rattle.std.proofs.lemmas.Bool.{cases_eq}
use Rattle.std.proofs.lemmas.List.{get_or_default}
use Rattle.greedy_rules.specs.Schedule.{slot_in}
use Rattle.clos_topology.specs.declared.graph.Edge.{Edge}
use Rattle.clos_topology.specs.RackGraph.{rack_edges}
use Rattle.edge_colouring.specs.Degrees.{HasDegreesWithin}
use Rattle.path_workers.specs.Coloured.{IsWithinCores}
use Rattle.path_workers.proofs.RowLemmas.{at_ok}
use Rattle.paths_rows.proofs.SlotLemmas.{slots_of_net}
use Rattle.paths_rows.proofs.tests.path_workers_rows.check_degrees.Goals as goal

pub load-requires-clause-endpoints : goal.load-requires-clause-endpoints
load-requires-clause-endpoints g c = slots_of_net c.args.net.now c.args.slots.now.endpoints c.args.slots.now.slots c.requires c.slots-slot-end.ensures.each c.loop-slot.slot [] (omega (arith, c.slots-slot-end.ensures.count, c.loop-slot-test.true))

pub loop-slot-preserved : goal.loop-slot-preserved
loop-slot-preserved g c =
    let net = c.args.net.now in
    let slot = slot_in c.args.slots.now.slots c.loop-slot.slot in
    let edges : List Edge = c.load.new.self.edges in
    let ok = sym c.is_ok-coloured.ensures.value ∙ c.if-assert.false in
    let degrees : HasDegreesWithin c.cores.result edges = at_ok c.colour.result (HasDegreesWithin c.cores.result edges) ok c.colour.ensures.degrees in
    let cores : c.cores.result ≡ net.cores = c.cores.ensures.number in
    let here : IsWithinCores net slot =
    (c.limits_are_degrees.ensures (record { hosts = net.hosts; cores = net.cores }) slot).1 (subst (λ (n : ℕ). HasDegreesWithin n (rack_edges net.hosts slot)) cores (subst (HasDegreesWithin c.cores.result) c.load.ensures.edges degrees)) in
    record {
      within = λ at below. elim (cases_eq at c.loop-slot.slot) [
        | inl same ↦ subst (λ (k : ℕ). IsWithinCores net (slot_in c.args.slots.now.slots k)) (sym same) here
        | inr other ↦ c.loop-slot.invariant.within at (omega (arith, below))
      ];
      net = c.colour.ensures.net ∙ c.loop-slot.invariant.net;
      room = omega (arith, c.load.ensures.room, c.loop-slot.invariant.room);
    }

pub returns : goal.returns
returns g c = λ k d below.
    subst (IsWithinCores c.args.net.now) (get_or_default c.args.slots.now.slots k [] d below) (c.loop-slot.invariant.within k (omega (arith, below, c.slots-slot-end.ensures.count, c.loop-slot-test.false)))
