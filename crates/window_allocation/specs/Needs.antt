-- A table of a number for each flow, and the one that holds their needs (this project's own profile).
use Rattle.std.specs.Prelude.{◌≡◌, ◌<◌, ℕ, ◌+◌, ◌*◌, List, length, slice_index}
use Rattle.greedy_rules.specs.declared.flows.Item.{Item}
use Rattle.greedy_rules.specs.Demands.{item_of, need_in}

-- a flow's place in such a table, by source and then destination
abbrev pub place_of : ℕ → ℕ → ℕ → ℕ
place_of endpoints src dst = src * endpoints + dst

-- the table holds the need of each flow of the list
pub record Needs (endpoints : ℕ) (items : List Item) (table : List ℕ) : Type 0 where
  pub long : length table ≡ endpoints * endpoints
  pub at : (src dst : ℕ) → src < endpoints → dst < endpoints → slice_index table (place_of endpoints src dst) ≡ need_in (item_of items (record { src = src; dst = dst }))
