-- What contracts see of a table with a number for each flow.
use Rattle.std.specs.Prelude.{ℕ, ◌+◌, ◌*◌, List}
use Rattle.std.specs.List.{slice_index_or}

pub record CellsContent : Type 0 where
  pub endpoints : ℕ
  pub cells : List ℕ

-- the number of a flow
abbrev pub cell : CellsContent → ℕ → ℕ → ℕ
cell table src dst = slice_index_or table.cells (src * table.endpoints + dst) 0
