-- The edges of a slot: of two parts of it, and what each of them is.
use Rattle.std.proofs.Common.{◌≡◌, ◌<◌, ℕ, List, [], ◌∷◌, ◌++◌, true, false, ◌==◌, cond, All, AllPairs, refl, ap, arith, inl, inr}
use Rattle.std.proofs.Math.Nat.{div-lt_iff_lt-mul}
use Rattle.std.proofs.lemmas.Bool.{cond-true, cond-false, cases_Bool, eqb-false}
use Rattle.std.proofs.lemmas.List.Elements.{All-nil, All-cons, All-head, All-tail}
use Rattle.greedy_rules.specs.declared.flows.Flow.{Flow}
use Rattle.list_facts.proofs.Pairs.{AllPairs-nil, AllPairs-cons, AllPairs-head, AllPairs-tail}
use Rattle.clos_topology.specs.declared.graph.Edge.{Edge}
use Rattle.greedy_rules.specs.Limits.{rack_of}
use Rattle.clos_topology.specs.Network.{Network, endpoints_of}
use Rattle.clos_topology.specs.Limits.{IsNetwork}
use Rattle.clos_topology.specs.RackGraph.{rack_edges, IsEdgeOf, IsGraphOf}

pub rack_edges-append : (hosts : ℕ) (xs ys : List Flow) → rack_edges hosts (xs ++ ys) ≡ rack_edges hosts xs ++ rack_edges hosts ys
rack_edges-append hosts [] ys = refl
rack_edges-append hosts (flow ∷ xs) ys =
    let edge : Edge = record { source = flow.src; left = rack_of hosts flow.src; right = rack_of hosts flow.dst } in
    elim (rack_of hosts flow.src == rack_of hosts flow.dst) as (λ b. cond b (rack_edges hosts (xs ++ ys)) (edge ∷ rack_edges hosts (xs ++ ys)) ≡ cond b (rack_edges hosts xs) (edge ∷ rack_edges hosts xs) ++ rack_edges hosts ys) [
      | true ↦ rack_edges-append hosts xs ys
      | false ↦ ap (λ (es : List Edge). edge ∷ es) (rack_edges-append hosts xs ys)
    ]

pub rack-below : (net : Network) (endpoint : ℕ) → IsNetwork net → endpoint < endpoints_of net → rack_of net.hosts endpoint < net.racks
rack-below net endpoint is below = let some : 0 < net.hosts = omega (arith, is.some_host) in (div-lt_iff_lt-mul {k = net.hosts} {x = endpoint} {y = net.racks} some).1 below

abbrev pub InNet : Network → Flow → Type 0
InNet net flow = (flow.src < endpoints_of net) × (flow.dst < endpoints_of net)

-- what every flow has, every edge has
edges_all : (P : ℕ → Type 0) (hosts : ℕ) (slot : List Flow) → All (λ flow. P flow.src) slot → All (λ edge. P edge.source) (rack_edges hosts slot)
edges_all P hosts [] all = All-nil (λ (edge : Edge). P edge.source)
edges_all P hosts (flow ∷ slot) all =
    let edge : Edge = record { source = flow.src; left = rack_of hosts flow.src; right = rack_of hosts flow.dst } in
    let rest : All (λ e. P e.source) (rack_edges hosts slot) = edges_all P hosts slot (All-tail (λ f. P f.src) flow slot all) in
    elim (rack_of hosts flow.src == rack_of hosts flow.dst) as (λ b. All (λ e. P e.source) (cond b (rack_edges hosts slot) (edge ∷ rack_edges hosts slot))) [
      | true ↦ rest
      | false ↦ All-cons (λ e. P e.source) edge (rack_edges hosts slot) (All-head (λ f. P f.src) flow slot all) rest
    ]

edges_rising : (hosts : ℕ) (slot : List Flow) → AllPairs (λ f g. f.src < g.src) slot → AllPairs (λ e f. e.source < f.source) (rack_edges hosts slot)
edges_rising hosts [] rises = AllPairs-nil (λ (e f : Edge). e.source < f.source)
edges_rising hosts (flow ∷ slot) rises =
    let edge : Edge = record { source = flow.src; left = rack_of hosts flow.src; right = rack_of hosts flow.dst } in
    let rest : AllPairs (λ e f. e.source < f.source) (rack_edges hosts slot) = edges_rising hosts slot (AllPairs-tail (λ f g. f.src < g.src) flow slot rises) in
    elim (rack_of hosts flow.src == rack_of hosts flow.dst) as (λ b. AllPairs (λ e f. e.source < f.source) (cond b (rack_edges hosts slot) (edge ∷ rack_edges hosts slot))) [
      | true ↦ rest
      | false ↦ AllPairs-cons (λ e f. e.source < f.source) edge (rack_edges hosts slot)
          (edges_all (λ source. flow.src < source) hosts slot (AllPairs-head (λ f g. f.src < g.src) flow slot rises)) rest
    ]

edges_each : (net : Network) (slot : List Flow) → IsNetwork net → All (InNet net) slot → All (IsEdgeOf net) (rack_edges net.hosts slot)
edges_each net [] is all = All-nil (IsEdgeOf net)
edges_each net (flow ∷ slot) is all =
    let edge : Edge = record { source = flow.src; left = rack_of net.hosts flow.src; right = rack_of net.hosts flow.dst } in
    let here : InNet net flow = All-head (InNet net) flow slot all in
    let rest : All (IsEdgeOf net) (rack_edges net.hosts slot) = edges_each net slot is (All-tail (InNet net) flow slot all) in
    elim (cases_Bool (rack_of net.hosts flow.src == rack_of net.hosts flow.dst)) [
      | inl same ↦ rw (cond-true (rack_of net.hosts flow.src == rack_of net.hosts flow.dst) (rack_edges net.hosts slot) (edge ∷ rack_edges net.hosts slot) same) rest
      | inr differ ↦ rw (cond-false (rack_of net.hosts flow.src == rack_of net.hosts flow.dst) (rack_edges net.hosts slot) (edge ∷ rack_edges net.hosts slot) differ)
          (All-cons (IsEdgeOf net) edge (rack_edges net.hosts slot) (record {
            source = here.0;
            left_is = refl;
            left = rack-below net flow.src is here.0;
            right = rack-below net flow.dst is here.1;
            apart = eqb-false _ _ differ;
          }) rest)
    ]

pub graph_of_slot : (net : Network) (slot : List Flow) → IsNetwork net → AllPairs (λ f g. f.src < g.src) slot → All (InNet net) slot → IsGraphOf net (rack_edges net.hosts slot)
graph_of_slot net slot is rises all = record { rising = edges_rising net.hosts slot rises; each = edges_each net slot is all }
