-- How far a stage is with its batch, and how many nodes it has for the items that it has still to give (this project's own
-- profile).
use Rattle.std.specs.Prelude.{◌≡◌, ℕ, ◌+◌, ◌-◌, ◌*◌, List, length, Bool}
use Rattle.greedy_rules.specs.declared.flows.Flow.{Flow}
use Rattle.greedy_rules.specs.declared.flows.Item.{Item}
use Rattle.greedy_rules.specs.Batches.{DemandBatch}
use Rattle.greedy_rules.specs.Demands.{opened}
pub use Rattle.slot_batches.specs.ArrayStands.{MayBeFed, OpensOthers, HasBeenFed, ListsMayBeFed}
use Rattle.slot_batches.specs.ArrayStands.{ArrayState, IsSameArrayWork, ArrayStands, array_endpoints, array_size, array_first, array_number, array_slots, array_left}

-- what contracts see of a stage: its batch with the items that it was fed and that wait, and how many nodes it has
pub record StageState : Type 0 where
  pub arrays : ArrayState
  pub nodes : ℕ

-- what a stage works on: its endpoints, how many slots a batch has, the number of the first, and the slots as they stand
abbrev pub stage_endpoints : StageState → ℕ
stage_endpoints stage = array_endpoints stage.arrays

abbrev pub batch_size_of : StageState → ℕ
batch_size_of stage = array_size stage.arrays

abbrev pub first_slot_of : StageState → ℕ
first_slot_of stage = array_first stage.arrays

-- the number that its pieces bear
abbrev pub stage_number : StageState → ℕ
stage_number stage = array_number stage.arrays

abbrev pub stage_slots : StageState → List (List Flow)
stage_slots stage = array_slots stage.arrays

-- how much it has still to give: falls with each piece
abbrev pub left_to_give : StageState → ℕ
left_to_give stage = array_left stage.arrays

abbrev pub IsSameWork : ℕ → ℕ → ℕ → ℕ → StageState → Type 0
IsSameWork endpoints b number first_slot stage = IsSameArrayWork endpoints b number first_slot stage.arrays

-- the nodes that a stage has once it was fed these items and gave so many pieces: one for each item fed and each flow that
-- opens, but for those of the pieces given
abbrev pub nodes_left : DemandBatch → List Item → ℕ → ℕ
nodes_left batch fed given = (length fed + length (opened batch.entries)) - 64 * given

-- the stage stands so once it began the batch, was fed these items, in this order, was finished or not, and gave so many pieces
pub record Stands (batch : DemandBatch) (fed : List Item) (finished : Bool) (given : ℕ) (stage : StageState) : Type 0 where
  pub arrays : ArrayStands batch fed finished given stage.arrays
  pub nodes : stage.nodes ≡ nodes_left batch fed given
