-- A proper edge colouring of the racks of a slot by core switches, and that it makes the slot clean (König's theorem; the
-- SIGCOMM 2014 Fastpass paper).
use Rattle.std.specs.Prelude.{◌≡◌, ◌≢◌, ◌<◌, ℕ, List, None, All, AllPairs, IsSomeAnd}
use Rattle.greedy_rules.specs.declared.flows.Flow.{Flow}
use Rattle.greedy_rules.specs.Matching.{IsMatching}
use Rattle.clos_topology.specs.declared.graph.Edge.{Edge}
use Rattle.clos_topology.specs.Links.{CoreOf, IsClean}
use Rattle.clos_topology.specs.RackGraph.{rack_edges}
use Rattle.edge_colouring.specs.Degrees.{HasDegreesWithin}

-- edges of one core share no rack on a side
abbrev pub AreApart : CoreOf → Edge → Edge → Type 0
AreApart core_of e f = core_of e.source ≡ core_of f.source → (e.left ≢ f.left) × (e.right ≢ f.right)

-- each edge, and no other source, has a core below the number of colours
pub record IsColouring (colours : ℕ) (edges : List Edge) (core_of : CoreOf) : Type 0 where
  pub named : All (λ edge. IsSomeAnd (core_of edge.source) (λ core. core < colours)) edges
  pub proper : AllPairs (AreApart core_of) edges
  pub others : (source : ℕ) → All (λ edge. edge.source ≢ source) edges → core_of source ≡ None

-- a matching with these edges is clean with these cores
abbrev pub MakesClean : ℕ → ℕ → List Edge → CoreOf → Type 0
MakesClean hosts colours edges core_of =
    (slot : List Flow) → IsMatching slot → edges ≡ rack_edges hosts slot → IsClean hosts colours slot core_of

-- for any edges, whatever the rest of the network
abbrev pub EveryColouringMakesAMatchingClean : Type 0
EveryColouringMakesAMatchingClean =
    (hosts colours : ℕ) (edges : List Edge) (core_of : CoreOf)
    → IsColouring colours edges core_of → MakesClean hosts colours edges core_of

-- König's theorem: where each edge has a source of its own, and no rack has more edges on a side than this number, there is
-- a colouring with so many cores
abbrev pub EveryGraphHasAColouring : Type 0
EveryGraphHasAColouring =
    (colours : ℕ) (edges : List Edge) → AllPairs (λ e f. e.source ≢ f.source) edges → HasDegreesWithin colours edges
    → (core_of : CoreOf) × IsColouring colours edges core_of

-- so every matching has cores that make it clean
abbrev pub EveryMatchingHasCleanCores : Type 0
EveryMatchingHasCleanCores =
    (hosts colours : ℕ) (slot : List Flow) → IsMatching slot → HasDegreesWithin colours (rack_edges hosts slot)
    → (core_of : CoreOf) × IsClean hosts colours slot core_of
