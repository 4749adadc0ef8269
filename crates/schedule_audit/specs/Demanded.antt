-- What is seen of the demand that batches leave (this project's own profile).
use Rattle.std.specs.Prelude.{ℕ, List}
use Rattle.greedy_rules.specs.declared.flows.Flow.{Flow}
use Rattle.greedy_rules.specs.declared.flows.Item.{Item}

-- for so many endpoints and slots of a batch: the items, and the slots of the last batch
pub record Demanded : Type 0 where
  pub endpoints : ℕ
  pub b : ℕ
  pub items : List Item
  pub slots : List (List Flow)
