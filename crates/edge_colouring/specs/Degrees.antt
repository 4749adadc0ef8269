-- Degrees of a bipartite multigraph of racks, and the first that is too large (König's theorem; which of several is named is
-- this project's own profile).
use Rattle.std.specs.Prelude.{◌≡◌, ◌↔◌, ◌<◌, ◌≤◌, ℕ, List, length, map, count_by, slice_index, All, Bool, true, false, ◌==◌}
use Rattle.greedy_rules.specs.declared.flows.Flow.{Flow}
use Rattle.greedy_rules.specs.declared.limits.Limits.{Limits}
use Rattle.greedy_rules.specs.Limits.{KeepsLimits}
use Rattle.clos_topology.specs.declared.graph.Edge.{Edge}
use Rattle.clos_topology.specs.RackGraph.{rack_edges}
use Rattle.edge_colouring.specs.declared.degrees.Degree.{Degree}

-- an edge's rack on the left side, or on the right
abbrev pub rack_on : Bool → Edge → ℕ
rack_on true edge = edge.left
rack_on false edge = edge.right

-- the racks of the edges, in their order
abbrev pub racks_on : Bool → List Edge → List ℕ
racks_on left edges = map (rack_on left) edges

-- how many edges a rack has on a side
abbrev pub degree_on : Bool → ℕ → List Edge → ℕ
degree_on left rack edges = count_by (λ edge. rack_on left edge == rack) edges

abbrev pub HasDegreesWithin : ℕ → List Edge → Type 0
HasDegreesWithin most edges = (left : Bool) (rack : ℕ) → degree_on left rack edges ≤ most

-- a slot keeps the limits of its racks exactly where no rack has more edges on a side than there are cores
abbrev pub LimitsAreDegrees : Type 0
LimitsAreDegrees = (limits : Limits) (slot : List Flow) → KeepsLimits limits slot ↔ HasDegreesWithin limits.cores (rack_edges limits.hosts slot)

-- every edge's racks are below this number
abbrev pub HasRacksBelow : ℕ → List Edge → Type 0
HasRacksBelow racks edges = All (λ edge. (edge.left < racks) × (edge.right < racks)) edges

-- a degree above this number: the first such rack, the left side first
pub record IsFirstExcess (most : ℕ) (edges : List Edge) (degree : Degree) : Type 0 where
  pub is : degree.degree ≡ degree_on degree.left degree.rack edges
  pub excess : most < degree.degree
  pub first : (rack : ℕ) → rack < degree.rack → degree_on degree.left rack edges ≤ most
  pub left_first : degree.left ≡ false → (rack : ℕ) → degree_on true rack edges ≤ most

-- the first of a side's degrees that is above this number
pub record IsFirstOf (most : ℕ) (left : Bool) (degrees : List ℕ) (degree : Degree) : Type 0 where
  pub side : degree.left ≡ left
  pub within : degree.rack < length degrees
  pub is : degree.degree ≡ slice_index degrees degree.rack
  pub excess : most < degree.degree
  pub first : (rack : ℕ) → rack < degree.rack → slice_index degrees rack ≤ most
