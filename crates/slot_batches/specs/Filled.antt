-- What the parts of a batch are, flow by flow, once items were taken up (this project's own profile).
use Rattle.std.specs.Prelude.{◌≡◌, ◌<◌, ◌≤◌, ℕ, ◌+◌, ◌^◌, List, Bool, true, false, All}
use Rattle.greedy_rules.specs.declared.flows.Flow.{Flow}
use Rattle.greedy_rules.specs.declared.flows.Item.{Item}
use Rattle.greedy_rules.specs.Demands.{HasEachFlowOnce, AreBelow}
use Rattle.greedy_rules.specs.Limits.{is_barred}
use Rattle.endpoint_bitmaps.specs.FreeSlots.{FreeSlots}
use Rattle.slot_batches.specs.FreePlaces.{ShowsFree}
use Rattle.slot_batches.specs.Progress.{StandsAfter}

-- the parts: the endpoints, how many slots there are and the number of the first, the maps, the slots as they stand, the items
-- that wait, and those that were served, in the order in which they were taken up
pub record Fill : Type 0 where
  pub endpoints : ℕ
  pub b : ℕ
  pub first_slot : ℕ
  pub maps : FreeSlots
  pub slots : List (List Flow)
  pub waiting : List Item
  pub served : List Item

-- it passes, and none above it does
pub record IsGreatest (test : ℕ → Bool) (place : ℕ) : Type 0 where
  pub passes : test place ≡ true
  pub none_above : (later : ℕ) → place < later → test later ≡ false

-- what may be taken up in a batch whose first slot has this number
pub record MayBeTakenUp (endpoints number : ℕ) (taken : List Item) : Type 0 where
  pub once : HasEachFlowOnce taken
  pub in_range : AreBelow endpoints taken
  pub below : All (λ item. item.last < number) taken

-- these items were taken up, in this order
pub record HasTakenUp (taken : List Item) (fill : Fill) : Type 0 where
  pub numbers : fill.first_slot + fill.b ≤ 2 ^ 32
  pub may : MayBeTakenUp fill.endpoints fill.first_slot taken
  pub stands : StandsAfter (is_barred fill.maps.limits) fill.first_slot fill.b taken fill.slots fill.waiting fill.served
  pub free : ShowsFree fill.endpoints fill.maps fill.slots
