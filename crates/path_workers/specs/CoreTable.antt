-- What contracts see of a core table: how many slots and endpoints it has room for, and the row of each slot, which has its
-- cores by source. No core is named past the end of a row, nor past the last row.
use Rattle.std.specs.Prelude.{◌≡◌, ◌≢◌, ℕ, List, [], Option, None}
use Rattle.std.specs.List.{slice_index_or}
use Rattle.clos_topology.specs.Links.{CoreOf}
use Rattle.edge_colouring.specs.Cores.{core_in}

pub record CoreSlots : Type 0 where
  pub slots : ℕ
  pub endpoints : ℕ
  pub rows : List (List (Option ℕ))

-- a table has room for what another has room for
pub record HasRoomOf (old new : CoreSlots) : Type 0 where
  -- as many slots
  pub slots : new.slots ≡ old.slots
  -- as many endpoints in each
  pub endpoints : new.endpoints ≡ old.endpoints

-- the core that a slot names for each source
abbrev pub core_of : CoreSlots → ℕ → CoreOf
core_of table slot = core_in (slice_index_or table.rows slot [])

-- the row of a slot
abbrev pub row_of : CoreSlots → ℕ → List (Option ℕ)
row_of table slot = slice_index_or table.rows slot []

-- one slot has got a row, and the others have theirs
pub record HasSet (slot : ℕ) (row : List (Option ℕ)) (old new : CoreSlots) : Type 0 where
  pub room : HasRoomOf old new
  pub own : row_of new slot ≡ row
  pub others : (other : ℕ) → other ≢ slot → row_of new other ≡ row_of old other

-- no source has a core
abbrev pub NamesNone : CoreOf → Type 0
NamesNone core_of = (source : ℕ) → core_of source ≡ None
