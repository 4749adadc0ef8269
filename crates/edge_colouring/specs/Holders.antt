-- Who holds a core at a rack of one side. Only the parts of the colouring cite it; what a colouring is says `Colouring`.
use Rattle.std.specs.Prelude.{◌≡◌, ◌<◌, ◌≤◌, ℕ, ◌+◌, ◌*◌, ◌/◌, ◌%◌, List, [], ◌∷◌, length, Bool, not, is_some, Option, Some, None, IsTrue, slice_index, slice_set, false, ◌==◌, if◌then◌else◌}
use Rattle.std.specs.List.{slice_index_or}
use Rattle.std.specs.Int.{bit_at}
use Rattle.edge_colouring.specs.Cores.{core_in}

-- the holders of a side, 64 places for each rack: the edge that has the core, if one has
abbrev pub Holders : Type 0
Holders = List (Option ℕ)

abbrev pub holder : Holders → ℕ → ℕ → Option ℕ
holder holders rack core = slice_index_or holders (rack * 64 + core) None

abbrev pub with_holder : Holders → ℕ → ℕ → Option ℕ → Holders
with_holder holders rack core edge = slice_set holders (rack * 64 + core) edge

abbrev pub is_free_holder : Holders → ℕ → ℕ → Bool
is_free_holder holders rack core = not (is_some (holder holders rack core))

-- a rack of a side
abbrev pub IsRackOf : Holders → ℕ → Type 0
IsRackOf holders rack = rack * 64 + 64 ≤ length holders

-- the lowest of 64 cores that passes the test, and 64 where none does
pub record IsLowest (test : ℕ → Bool) (core : ℕ) : Type 0 where
  pub bound : core ≤ 64
  pub passes : core < 64 → IsTrue (test core)
  pub first : (k : ℕ) → k < core → test k ≡ false

-- a side by masks, at each rack a bit for each core, and edges: an edge holds a core where the bit is 0
abbrev pub shown_from : ℕ → List ℕ → List ℕ → List (Option ℕ)
shown_from place masks [] = []
shown_from place masks (edge ∷ edges) =
    (if bit_at (slice_index masks (place / 64)) (place % 64) == 1 then None else Some edge) ∷ shown_from (place + 1) masks edges

abbrev pub holders_shown : List ℕ → List ℕ → Holders
holders_shown masks edges = shown_from 0 masks edges

-- each edge that has a core holds it at its rack, and nothing else is held
pub record HoldsColours (racks : List ℕ) (colours holders : List (Option ℕ)) : Type 0 where
  pub held : (at core : ℕ) → core < 64 → core_in colours at ≡ Some core → holder holders (slice_index racks at) core ≡ Some at
  pub holds : (rack core at : ℕ) → core < 64 → holder holders rack core ≡ Some at → (slice_index racks at ≡ rack) × (core_in colours at ≡ Some core)
