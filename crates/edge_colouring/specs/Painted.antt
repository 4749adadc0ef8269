-- Edges that have their cores, and the two sides that hold them. Only the parts of the colouring cite it.
use Rattle.std.specs.Prelude.{◌≡◌, ◌≢◌, ◌<◌, ◌≤◌, ℕ, List, length, Bool, true, false, Option, None, All, IsSomeAnd}
use Rattle.std.specs.List.{slice_index_or}
use Rattle.clos_topology.specs.declared.graph.Edge.{Edge}
use Rattle.edge_colouring.specs.Degrees.{racks_on}
use Rattle.edge_colouring.specs.Cores.{core_in}
use Rattle.edge_colouring.specs.Holders.{Holders, IsRackOf, HoldsColours}

abbrev pub AreNamed : ℕ → List (Option ℕ) → Type 0
AreNamed most colours = All (λ colour. IsSomeAnd colour (λ core. core < most)) colours

-- the racks of the edges on a side are racks of these holders
abbrev pub HasRacks : Bool → List Edge → Holders → Type 0
HasRacks left edges holders = All (IsRackOf holders) (racks_on left edges)

-- the first edges have cores below this number, which the two sides hold for them
pub record IsPainted (edges : List Edge) (most : ℕ) (colours left right : List (Option ℕ)) : Type 0 where
  pub named : AreNamed most colours
  pub left_side : HoldsColours (racks_on true edges) colours left
  pub right_side : HoldsColours (racks_on false edges) colours right

-- as many edges as this one's place are painted, and it can be
pub record Awaits (edges : List Edge) (most : ℕ) (colours left right : List (Option ℕ)) (edge : ℕ) : Type 0 where
  pub within : edge < length edges
  pub count : length colours ≡ edge
  pub left_racks : HasRacks true edges left
  pub right_racks : HasRacks false edges right
  pub small : most ≤ 64
  pub painted : IsPainted edges most colours left right

-- each edge's source has the edge's core, and no other source has one
pub record AreNamedBySource (edges : List Edge) (colours cores : List (Option ℕ)) : Type 0 where
  pub each : (at : ℕ) (edge : Edge) → at < length edges → core_in cores (slice_index_or edges at edge).source ≡ core_in colours at
  pub others : (source : ℕ) → All (λ edge. edge.source ≢ source) edges → core_in cores source ≡ None
