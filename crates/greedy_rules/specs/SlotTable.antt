-- What contracts see of a slot table: its slots, each the list of its flows rising by source, and how many endpoints it serves.
use Rattle.std.specs.Prelude.{◌≡◌, ◌<◌, ◌≤◌, ℕ, ◌+◌, ◌*◌, List, [], ◌∷◌, length, take, drop, map, filter, replicate, Option, Some, None, is_some, All, AllPairs, IfSome, find, option_map, ◌==◌, vec_len, vec_capacity}
use Rattle.std.specs.List.{slice_get, slice_index_or}
use Rattle.greedy_rules.specs.declared.flows.Flow.{Flow}
use Rattle.greedy_rules.specs.declared.rows.Rows.{Rows}

pub record Slots : Type 0 where
  pub slots : List (List Flow)
  pub endpoints : ℕ

-- the flows of a row that holds each source's destination, from this source on
abbrev pub flows_from : ℕ → List (Option ℕ) → List Flow
flows_from src [] = []
flows_from src (None ∷ cells) = flows_from (src + 1) cells
flows_from src (Some dst ∷ cells) = record { src = src; dst = dst } ∷ flows_from (src + 1) cells

-- the places of the row of this number, where rows stand one after the other
abbrev pub row_of : ℕ → List (Option ℕ) → ℕ → List (Option ℕ)
row_of endpoints cells row = take endpoints (drop (row * endpoints) cells)

-- the flows of a slot whose row has this number, if it has one
abbrev pub flows_at : ℕ → List (Option ℕ) → Option ℕ → List Flow
flows_at endpoints cells None = []
flows_at endpoints cells (Some row) = flows_from 0 (row_of endpoints cells row)

-- the slots of a table: each has the row of this number, if it has one
abbrev pub table_slots : ℕ → List (Option ℕ) → List (Option ℕ) → List (List Flow)
table_slots endpoints cells places = map (flows_at endpoints cells) places

abbrev pub place_at : List (Option ℕ) → ℕ → Option ℕ
place_at places slot = slice_index_or places slot None

-- where the source sends in this slot, if it does
abbrev pub destination_of : List Flow → ℕ → Option ℕ
destination_of slot src = option_map (λ (flow : Flow). flow.dst) (find (λ flow. flow.src == src) slot)

-- a slot of a table: its flows rise by source, and their endpoints are below this number
pub record IsSlotOf (endpoints : ℕ) (slot : List Flow) : Type 0 where
  pub rising : AllPairs (λ f g. f.src < g.src) slot
  pub in_range : All (λ flow. (flow.src < endpoints) × (flow.dst < endpoints)) slot

-- the destinations in these places are below this number
abbrev pub AreCells : ℕ → List (Option ℕ) → Type 0
AreCells endpoints cells = All (λ cell. IfSome cell (λ dst. dst < endpoints)) cells

-- there are as many rows as slots; the first ones have owners, each the slot whose place says so, and in the rows behind them nobody sends
pub record AreRows (endpoints : ℕ) (cells places : List (Option ℕ)) (owners : List ℕ) : Type 0 where
  pub whole : length cells ≡ length places * endpoints
  pub counted : length (filter is_some places) ≡ length owners
  pub owned : (slot row : ℕ) → place_at places slot ≡ Some row → slice_get owners row ≡ Some slot
  pub placed : (slot row : ℕ) → slice_get owners row ≡ Some slot → place_at places slot ≡ Some row
  pub clean : (at : ℕ) → length owners * endpoints ≤ at → slice_index_or cells at None ≡ None
  pub cells_are : AreCells endpoints cells

-- there is room for the owner of each row, and a row in which nobody sends
pub record IsTable (rows : Rows) : Type 0 where
  pub rows_are : AreRows rows.endpoints rows.cells.items rows.places.items rows.owners.items
  pub few : vec_len rows.places < 65536
  pub room : vec_len rows.places ≤ vec_capacity rows.owners
  pub idle : rows.idle.items ≡ replicate rows.endpoints None

-- what contracts see of these rows
abbrev pub slots_of_rows : Rows → List (List Flow)
slots_of_rows rows = table_slots rows.endpoints rows.cells.items rows.places.items
