-- A batch made from a table that has an entry, or none, for each source and destination, walked by rising source, and by rising
-- destination for each (this project's own profile).
use Rattle.std.specs.Prelude.{◌≡◌, ◌<◌, ℕ, List, Option, Some, IfSome, All, filter_map}
use Rattle.std.specs.List.{flat_map, range_with_len}
use Rattle.greedy_rules.specs.declared.flows.Flow.{Flow}
use Rattle.greedy_rules.specs.declared.flows.Entry.{Entry}
use Rattle.greedy_rules.specs.Batches.{IsBatch, entry_of}

-- what the table has for each source and destination
abbrev pub Cells : Type 0
Cells = (src dst : ℕ) → Option Entry

abbrev pub flow_of : ℕ → ℕ → Flow
flow_of src dst = record { src = src; dst = dst }

-- each entry is of the flow whose cell it stands in
abbrev pub AreOfTheirCells : Cells → Type 0
AreOfTheirCells cells = (src dst : ℕ) → IfSome (cells src dst) (λ entry. entry.flow ≡ flow_of src dst)

abbrev pub entries_from : Cells → ℕ → ℕ → List Entry
entries_from cells endpoints src = filter_map (cells src) (range_with_len 0 endpoints)

abbrev pub entries_of_cells : Cells → ℕ → List Entry
entries_of_cells cells endpoints = flat_map (entries_from cells endpoints) (range_with_len 0 endpoints)

-- they are a batch, which has the entries of the table and no other
pub record AreEntriesOfCells (cells : Cells) (endpoints : ℕ) : Type 0 where
  pub rises : IsBatch (entries_of_cells cells endpoints)
  pub each : (src dst : ℕ) → src < endpoints → dst < endpoints → entry_of (entries_of_cells cells endpoints) (flow_of src dst) ≡ cells src dst
  pub no_other : All (λ entry. (entry.flow.src < endpoints) × (entry.flow.dst < endpoints) × (cells entry.flow.src entry.flow.dst ≡ Some entry)) (entries_of_cells cells endpoints)

abbrev pub EveryTableMakesABatch : Type 0
EveryTableMakesABatch = (cells : Cells) (endpoints : ℕ) → AreOfTheirCells cells → AreEntriesOfCells cells endpoints
