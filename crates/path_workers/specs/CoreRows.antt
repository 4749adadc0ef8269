-- How rows of cores stand in one list: first a band of which each row that names the first core for one source alone is a part,
-- then the other rows one after the other.
use Rattle.std.specs.Prelude.{◌≡◌, ◌≤◌, ℕ, ◌+◌, ◌-◌, ◌*◌, ◌==◌, List, ◌∷◌, ◌++◌, map, replicate, Bool, not, Option, Some, None, All, take, drop, count_by, vec_len, vec_capacity, if◌then◌else◌}
use Rattle.clos_topology.specs.Links.{CoreOf}
use Rattle.path_workers.specs.declared.core_table.Place.{Place}
use Rattle.path_workers.specs.declared.core_table.CoreTable.TheInside.{Inside}

-- the first core for one source alone, and the row of so many endpoints that names it so
abbrev pub first_core : ℕ → CoreOf
first_core source other = if other == source then Some 0 else None

abbrev pub first_row : ℕ → ℕ → List (Option ℕ)
first_row endpoints source = replicate source None ++ Some 0 ∷ replicate (endpoints - 1 - source) None

-- the row that stands at a place
abbrev pub row_there : List (Option ℕ) → Place → List (Option ℕ)
row_there cores place = take place.len (drop place.from cores)

-- the rows that stand at places
abbrev pub rows_at_places : List (Option ℕ) → List Place → List (List (Option ℕ))
rows_at_places cores places = map (row_there cores) places

-- the places at which a row stands that is not empty
abbrev pub is_filled : Place → Bool
is_filled place = not (place.len == 0)

-- the band for so many endpoints: the row of a source is the part of so many cells that begins at `endpoints - 1 - source`
abbrev pub band : ℕ → List (Option ℕ)
band endpoints = replicate (endpoints - 1) None ++ Some 0 ∷ replicate (endpoints - 1) None

abbrev pub band_len : ℕ → ℕ
band_len endpoints = 2 * (endpoints - 1) + 1

-- each slot has a place, the band stands in front, each place stands within the cores, which are at most as many as the slots
-- with a row need, and there is room for a row of each slot
pub record AreCoreRows (table : Inside) : Type 0 where
  pub places : vec_len table.places ≡ table.slots
  pub within : All (λ place. place.from + place.len ≤ vec_len table.cores) table.places.items
  pub front : take (band_len table.endpoints) table.cores.items ≡ band table.endpoints
  pub few : vec_len table.cores ≤ band_len table.endpoints + count_by is_filled table.places.items * table.endpoints
  pub core_room : band_len table.endpoints + table.slots * table.endpoints ≤ vec_capacity table.cores
