-- The entries of a batch, from a table of totals and one of what is published of them.
use Rattle.std.specs.Prelude.{ℕ, ◌-◌, ◌==◌, nat_lt, false, List, Option, Some, None, filter_map, All, IsTrue, if◌then◌else◌}
use Rattle.std.specs.List.{flat_map, range_with_len}
use Rattle.greedy_rules.specs.declared.flows.Entry.{Entry}
use Rattle.greedy_rules.specs.Flows.{flow_below}
use Rattle.greedy_rules.specs.Cells.{flow_of}
use Rattle.takeover_core.specs.Cells.{CellsContent, cell}

-- there is an entry where the total is above what is published
abbrev pub entry_at : CellsContent → CellsContent → ℕ → ℕ → Option Entry
entry_at told published src dst =
    if nat_lt (cell published src dst) (cell told src dst)
    then Some (record { flow = flow_of src dst; opens = cell published src dst == 0; clear = false; add = cell told src dst - cell published src dst })
    else None

abbrev pub entries_row : CellsContent → CellsContent → ℕ → ℕ → List Entry
entries_row told published src count = filter_map (entry_at told published src) (range_with_len 0 count)

abbrev pub entries_between : CellsContent → CellsContent → ℕ → List Entry
entries_between told published endpoints = flat_map (λ src. entries_row told published src endpoints) (range_with_len 0 endpoints)

-- all flows of the entries come before this one
abbrev pub AreBelowFlow : List Entry → ℕ → ℕ → Type 0
AreBelowFlow entries src dst = All (λ entry. IsTrue (flow_below entry.flow (flow_of src dst))) entries
