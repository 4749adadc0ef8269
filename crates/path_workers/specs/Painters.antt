-- A path worker's rows of cores: for each slot that it has coloured, the row that has its cores (this project's own profile).
use Rattle.std.specs.Prelude.{◌≡◌, ◌≢◌, ◌<◌, ◌≤◌, ◌⊎◌, ℕ, ◌+◌, ◌-◌, ◌*◌, nat_lt, List, [], map, length, Bool, true, Option, Some, None, All, IsTrue, is_some, take, drop, count_by, vec_len, vec_capacity, if◌then◌else◌}
use Rattle.std.specs.List.{slice_index_or, list_any, Contains}
use Rattle.greedy_rules.specs.declared.flows.Flow.{Flow}
use Rattle.greedy_rules.specs.Matching.{IsMatching}
use Rattle.greedy_rules.specs.Schedule.{slot_in}
use Rattle.clos_topology.specs.Network.{Network, endpoints_of}
use Rattle.clos_topology.specs.Links.{CoreOf}
use Rattle.edge_colouring.specs.Cores.{core_in}
use Rattle.path_workers.specs.declared.jobs.Job.{Job}
use Rattle.path_workers.specs.declared.painter.Painter.{Painter}
use Rattle.path_workers.specs.CoreTable.{CoreSlots, core_of, row_of}
use Rattle.path_workers.specs.CoreRows.{first_core}
use Rattle.path_workers.specs.Coloured.{IsFlowOf, IsWithinCores, HasItsCores}
use Rattle.path_workers.specs.Jobs.{weigh, is_slot}

-- the workers' numbers
abbrev pub numbers_of : List Painter → List ℕ
numbers_of painters = map (λ painter. painter.number) painters

-- slots that may be given cores, at most as many as there is room for
pub record AreColourable (net : Network) (room : ℕ) (slots : List (List Flow)) : Type 0 where
  pub count : length slots ≤ room
  pub flows : All (All (IsFlowOf net)) slots
  pub matchings : All IsMatching slots
  pub within : All (IsWithinCores net) slots

-- where the cores of a slot stand, if it was coloured
abbrev pub cores_place : Painter → ℕ → Option ℕ
cores_place painter slot = slice_index_or painter.places.items slot None

abbrev pub has_row : ℕ → Painter → Bool
has_row slot painter = is_some (cores_place painter slot)

-- the row at a place, where each has so many cores
abbrev pub cores_row : ℕ → List (Option ℕ) → ℕ → List (Option ℕ)
cores_row endpoints cores place = take endpoints (drop (place * endpoints) cores)

-- the cores that a place stands for: those of its row, or from 1025 on the first core for one source alone
abbrev pub cores_at : ℕ → List (Option ℕ) → ℕ → CoreOf
cores_at endpoints cores place =
    if nat_lt place 1025 then core_in (cores_row endpoints cores place) else first_core (place - 1025)

abbrev pub row_at : Painter → ℕ → CoreOf
row_at painter place = cores_at (endpoints_of painter.net) painter.rows.items place

-- room for a row of each slot, and for each slot in the list
pub record IsPainter (net : Network) (room : ℕ) (painter : Painter) : Type 0 where
  pub few : room ≤ 1024
  pub same_net : painter.net ≡ net
  pub table : painter.table.net ≡ net
  pub graph : endpoints_of net ≤ painter.graph.room
  pub places : vec_len painter.places ≡ room
  pub made : room ≤ vec_capacity painter.made
  pub rows : vec_len painter.rows ≡ room * endpoints_of net

-- a slot's row has its cores; it is the row of a slot with the same packets, an empty one past the rows, or that of one source
pub record HasRow (net : Network) (room : ℕ) (slots : List (List Flow)) (painter : Painter) (slot place : ℕ) : Type 0 where
  pub same : place < room → slot_in slots place ≡ slot_in slots slot
  pub within : place < 1025 + endpoints_of net
  pub cores : HasItsCores net (slot_in slots slot) (row_at painter place)

-- the slots that a worker lists: some that it has coloured, no more of them than that, and at least those that need a row
pub record AreListed (count : ℕ) (places : List (Option ℕ)) (made : List ℕ) : Type 0 where
  pub few : length made ≤ count_by is_some places
  pub coloured : All (λ slot. (slot < count) × IsTrue (is_some (slice_index_or places slot None))) made
  pub all : (slot place : ℕ) → slice_index_or places slot None ≡ Some place → place ≢ 1024 → Contains made slot

pub record HasPainted (net : Network) (room : ℕ) (slots : List (List Flow)) (painter : Painter) : Type 0 where
  pub sized : IsPainter net room painter
  pub rows : (slot place : ℕ) → slot < length slots → cores_place painter slot ≡ Some place → HasRow net room slots painter slot place
  pub listed : AreListed (length slots) painter.places.items painter.made.items

-- each slot of these whose job was taken more often than before has a row
abbrev pub HasRowsOf : ℕ → List Job → List Job → Painter → Type 0
HasRowsOf count old new painter = (slot : ℕ) → slot < count → weigh (is_slot slot) old < weigh (is_slot slot) new → IsTrue (has_row slot painter)

abbrev pub HaveRowsOf : ℕ → List Job → List Job → List Painter → Type 0
HaveRowsOf count old new painters = (slot : ℕ) → slot < count → weigh (is_slot slot) old < weigh (is_slot slot) new → list_any (has_row slot) painters ≡ true

-- each of the first slots has a row
abbrev pub HaveRows : ℕ → List Painter → Type 0
HaveRows count painters = (slot : ℕ) → slot < count → list_any (has_row slot) painters ≡ true

-- the slots may be coloured by it, and its rows are right
pub record MayPaint (slots : List (List Flow)) (painter : Painter) : Type 0 where
  pub colourable : AreColourable painter.net (vec_len painter.places) slots
  pub painted : HasPainted painter.net (vec_len painter.places) slots painter

-- all of them are of one network and size, whose slots may be coloured
abbrev pub MayAllPaint : List (List Flow) → List Painter → Type 0
MayAllPaint slots painters = (net : Network) × (room : ℕ) × AreColourable net room slots × All (HasPainted net room slots) painters

-- each row of a table that is not empty has the cores of its slot
pub record AreRowsOf (net : Network) (slots : List (List Flow)) (table : CoreSlots) : Type 0 where
  pub each : (at : ℕ) → at < length slots → HasItsCores net (slot_in slots at) (core_of table at) ⊎ (row_of table at ≡ [])
  pub past : (at : ℕ) → length slots ≤ at → row_of table at ≡ []

-- each slot that a worker has coloured has its cores in the table, as have those that had them before
pub record HasGiven (slots : List (List Flow)) (painter : Painter) (old new : CoreSlots) : Type 0 where
  pub rows : AreRowsOf painter.net slots new
  pub keeps : (at : ℕ) → HasItsCores painter.net (slot_in slots at) (core_of old at) → HasItsCores painter.net (slot_in slots at) (core_of new at)
  pub given : (at : ℕ) → at < length slots → IsTrue (has_row at painter) → HasItsCores painter.net (slot_in slots at) (core_of new at)
