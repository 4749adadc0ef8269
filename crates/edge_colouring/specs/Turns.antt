-- The exchange of two cores along an alternating path. Only the parts of the colouring cite it.
use Rattle.std.specs.Prelude.{◌≡◌, ◌≢◌, ◌<◌, ◌≤◌, ◌⊎◌, ℕ, List, length, true, false, Option, Some, All, slice_index, slice_set}
use Rattle.clos_topology.specs.declared.graph.Edge.{Edge}
use Rattle.edge_colouring.specs.Degrees.{racks_on}
use Rattle.edge_colouring.specs.Cores.{core_in}
use Rattle.edge_colouring.specs.Holders.{Holders, holder, with_holder, IsRackOf, HoldsColours}

-- the core of an edge before and after: the same, or one of the two and then the other
abbrev pub IsTurned : ℕ → ℕ → Option ℕ → Option ℕ → Type 0
IsTurned a b old new =
    (new ≡ old) ⊎ (((old ≡ Some a) × (new ≡ Some b)) ⊎ ((old ≡ Some b) × (new ≡ Some a)))

pub record AreTurned (a b : ℕ) (old new : List (Option ℕ)) : Type 0 where
  pub count : length new ≡ length old
  pub each : (at : ℕ) → IsTurned a b (core_in old at) (core_in new at)

-- the holders of a side once an edge that held x at its rack holds y there, and who held y holds x
abbrev pub handed_on : List ℕ → ℕ → ℕ → Holders → ℕ → Holders
handed_on racks x y holders edge =
    let rack = slice_index racks edge in
    with_holder (with_holder holders rack y (Some edge)) rack x (holder holders rack y)

-- what a turn of an edge does on one side: who holds x and y at its rack, its own core, and who held y
pub record IsTurn (racks : List ℕ) (x y : ℕ) (old new : Holders) (old_colours new_colours : List (Option ℕ)) (edge : ℕ) (other : Option ℕ) : Type 0 where
  pub holders : new ≡ handed_on racks x y old edge
  pub colours : new_colours ≡ slice_set old_colours edge (Some y)
  pub answer : other ≡ holder old (slice_index racks edge) y

-- a path begins with this edge: it holds a at its left rack and b at its right one, and counts as an edge of b
pub record BeginsPath (edges : List Edge) (a b first : ℕ) (colours left right : List (Option ℕ)) : Type 0 where
  pub count : length colours ≤ length edges
  pub left_racks : All (IsRackOf left) (racks_on true edges)
  pub right_racks : All (IsRackOf right) (racks_on false edges)
  pub small_a : a < 64
  pub small_b : b < 64
  pub differ : a ≢ b
  pub core : core_in colours first ≡ Some b
  pub left_side : HoldsColours (racks_on true edges) (slice_set colours first (Some a)) left
  pub right_side : HoldsColours (racks_on false edges) colours right
