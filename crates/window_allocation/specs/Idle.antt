-- Batches that change nothing (this project's own profile).
use Rattle.std.specs.Prelude.{◌≡◌, ◌<◌, List, [], length, All}
use Rattle.greedy_rules.specs.declared.flows.Item.{Item}
use Rattle.greedy_rules.specs.Batches.{DemandBatch}

-- batches without entries, over a list in which no item needs a slot
pub record AreIdle (list : List Item) (batches : List DemandBatch) : Type 0 where
  pub no_entries : All (λ batch. batch.entries ≡ []) batches
  pub no_needs : 0 < length batches → All (λ item. item.need ≡ 0) list
