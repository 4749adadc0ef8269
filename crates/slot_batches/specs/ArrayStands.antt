-- How far a batch is whose items lie in arrays, once some items of the demand list were fed (this project's own profile).
use Rattle.std.specs.Prelude.{◌≡◌, ◌≢◌, ◌<◌, ◌≤◌, ◌⊎◌, ℕ, ◌+◌, ◌-◌, ◌*◌, List, ◌++◌, length, min, IsTrue, All, Bool, false, ◌&&◌, nat_lt, if◌then◌else◌}
use Rattle.greedy_rules.specs.declared.flows.Flow.{Flow}
use Rattle.greedy_rules.specs.declared.flows.Item.{Item}
use Rattle.greedy_rules.specs.declared.flows.Entry.{Entry}
use Rattle.greedy_rules.specs.Batches.{DemandBatch, IsBatch}
use Rattle.greedy_rules.specs.Demands.{HasEachFlowOnce, AreBelow, OpensNewFlows, opened}
use Rattle.slot_batches.specs.Feeding.{IsInOrder, has_served, taken_up}
use Rattle.slot_batches.specs.NextList.{IsListBefore}
use Rattle.slot_batches.specs.Filled.{Fill, HasTakenUp}
use Rattle.slot_batches.specs.Marks.{AreMarked}
use Rattle.slot_batches.specs.Settled.{slots_filled, settled}
use Rattle.slot_batches.specs.Pieces.{piece_count}

-- what contracts see of it: the number of its pieces, the parts of its batch, the marks of its entries, how many entries
-- may still open their flows, how many items it has given, and whether it has still to give the piece with the end
pub record ArrayState : Type 0 where
  pub number : ℕ
  pub fill : Fill
  pub marks : List ℕ
  pub unopened : ℕ
  pub given : ℕ
  pub ends : Bool

-- what it works on: its endpoints, how many slots a batch has, the number of the first, and the slots as they stand
abbrev pub array_endpoints : ArrayState → ℕ
array_endpoints stage = stage.fill.endpoints

abbrev pub array_size : ArrayState → ℕ
array_size stage = stage.fill.b

abbrev pub array_first : ArrayState → ℕ
array_first stage = stage.fill.first_slot

-- the number that its pieces bear
abbrev pub array_number : ArrayState → ℕ
array_number stage = stage.number

abbrev pub array_slots : ArrayState → List (List Flow)
array_slots stage = stage.fill.slots

-- how much it has still to give: falls with each piece
abbrev pub array_left : ArrayState → ℕ
array_left stage = (length stage.fill.waiting - stage.given) + (if stage.ends then 1 else 0)

pub record IsSameArrayWork (endpoints b number first_slot : ℕ) (stage : ArrayState) : Type 0 where
  pub same_endpoints : array_endpoints stage ≡ endpoints
  pub same_size : array_size stage ≡ b
  pub same_number : array_number stage ≡ number
  pub same_first : array_first stage ≡ first_slot

-- no entry opens the item's flow
abbrev pub OpensOthers : List Entry → Item → Type 0
OpensOthers batch item = All (λ entry. IsTrue entry.opens → entry.flow ≢ item.flow) batch

-- a list that a batch may be fed whose first slot has this number
pub record MayBeFed (batch : List Entry) (endpoints number : ℕ) (list : List Item) : Type 0 where
  pub in_order : IsInOrder list
  pub once : HasEachFlowOnce list
  pub in_range : AreBelow endpoints list
  pub below : All (λ item. item.last < number) list
  pub others_open : All (OpensOthers batch) list

-- the parts of a batch once these items were fed, in this order
pub record HasBeenFed (batch : DemandBatch) (fed : List Item) (fill : Fill) (unopened : ℕ) : Type 0 where
  pub positive : 1 ≤ fill.first_slot
  pub small : fill.endpoints ≤ 256
  pub rising : IsBatch batch.entries
  pub limits : fill.maps.limits ≡ batch.limits
  pub opening : AreBelow fill.endpoints (opened batch.entries)
  pub may : MayBeFed batch.entries fill.endpoints fill.first_slot fed
  pub taken : HasTakenUp (taken_up batch.entries fed false) fill
  pub unopened_is : unopened ≡ (if has_served fed then 0 else length batch.entries)

-- it stands so once it began the batch, was fed these items, in this order, was finished or not, and gave so many pieces
pub record ArrayStands (batch : DemandBatch) (fed : List Item) (finished : Bool) (given : ℕ) (stage : ArrayState) : Type 0 where
  pub feeding : finished ≡ false → HasBeenFed batch fed stage.fill stage.unopened
  pub marked : AreMarked batch.entries stage.marks
  pub slots : array_slots stage ≡ slots_filled batch (array_first stage) (array_size stage) fed finished
  pub list : stage.fill.waiting ≡ settled batch (array_first stage) (array_size stage) fed finished
  pub few : length stage.fill.waiting ≤ 65536
  pub given_is : stage.given ≡ min (64 * given) (length stage.fill.waiting)
  pub ends_is : stage.ends ≡ (finished && nat_lt given (piece_count stage.fill.waiting))
  pub more_wait : finished ≡ false → (given ≡ 0) ⊎ (64 * given < length stage.fill.waiting)

-- the list before the first slot of a batch may be fed, item by item
abbrev pub ListsMayBeFed : Type 0
ListsMayBeFed =
    (batch : List Entry) (endpoints number : ℕ) (fed rest : List Item) → IsListBefore number (fed ++ rest) → AreBelow endpoints (fed ++ rest) → OpensNewFlows batch (fed ++ rest)
    → MayBeFed batch endpoints number fed
