-- Demand batches as they are recorded, round after round, and the lists that they find and leave (this project's own profile).
-- A name that ends in By is said of lists sorted by any key; without By, of lists sorted by the slot in which a flow was last served.
use Rattle.std.specs.Prelude.{◌≡◌, ◌≢◌, ◌<◌, ◌≤◌, ℕ, ◌+◌, ◌^◌, List, [], ◌∷◌, ◌++◌, length, not, IsTrue, All}
use Rattle.greedy_rules.specs.declared.flows.Flow.{Flow}
use Rattle.greedy_rules.specs.declared.flows.Item.{Item}
use Rattle.greedy_rules.specs.declared.limits.Limits.{Limits}
use Rattle.greedy_rules.specs.Batches.{DemandBatch, IsBatch, entry_of}
use Rattle.greedy_rules.specs.Demands.{Key, last_served, HasEachFlowOnce, AreBelow, HaveTwoEnds, OpensNewFlows, is_listed, item_of, need_in, need_with, opened}
use Rattle.greedy_rules.specs.Limits.{is_barred, KeepsLimits}
use Rattle.greedy_rules.specs.SlotTable.{IsSlotOf}
use Rattle.greedy_rules.specs.Schedule.{list_then_by, schedule_by, rest_by, slot_at, need_before_by}
use Rattle.greedy_rules.specs.Balance.{is_recorded, AreInOrder}
use Rattle.greedy_rules.specs.Matching.{AreAmong, IsMatching, IsMaximal}

-- what a flow would need after the batches if none of its slots had been allocated
abbrev pub demand_through : List DemandBatch → Flow → ℕ → ℕ
demand_through [] flow need = need
demand_through (batch ∷ batches) flow need = demand_through batches flow (need_with (entry_of batch.entries flow) need)

abbrev pub demand_of : List DemandBatch → Flow → ℕ
demand_of batches flow = demand_through batches flow 0

-- the batch that is recorded after these: its entries rise, are of flows between the endpoints and none from an endpoint to
-- itself, open exactly the flows that no earlier batch has, and clear others alone; every demand is a number of 32 bits
pub record IsRecordedAfter (endpoints : ℕ) (limits : Limits) (earlier : List DemandBatch) (batch : DemandBatch) : Type 0 where
  pub same_limits : batch.limits ≡ limits
  pub rises : IsBatch batch.entries
  pub in_range : AreAmong endpoints batch.entries
  pub apart : All (λ entry. entry.flow.src ≢ entry.flow.dst) batch.entries
  pub opens : All (λ entry. entry.opens ≡ not (is_recorded earlier entry.flow)) batch.entries
  pub clears : All (λ entry. IsTrue entry.clear → IsTrue (is_recorded earlier entry.flow)) batch.entries
  pub fits : (flow : Flow) → need_with (entry_of batch.entries flow) (demand_of earlier flow) < 2 ^ 32

abbrev pub AreRecordedAfter : ℕ → Limits → List DemandBatch → List DemandBatch → Type 0
AreRecordedAfter endpoints limits earlier [] = Unit {0}
AreRecordedAfter endpoints limits earlier (batch ∷ batches) =
    IsRecordedAfter endpoints limits earlier batch × AreRecordedAfter endpoints limits (earlier ++ batch ∷ []) batches

abbrev pub AreRecorded : ℕ → Limits → List DemandBatch → Type 0
AreRecorded endpoints limits batches = AreRecordedAfter endpoints limits [] batches

-- a batch may be applied to a list
pub record Applies (endpoints : ℕ) (batch : DemandBatch) (list : List Item) : Type 0 where
  pub rises : IsBatch batch.entries
  pub opens : OpensNewFlows batch.entries list
  pub once : HasEachFlowOnce list
  pub below : AreBelow endpoints (list ++ opened batch.entries)
  pub apart : HaveTwoEnds (list ++ opened batch.entries)
  pub needs : All (λ item. need_with (entry_of batch.entries item.flow) item.need < 2 ^ 32) list

-- each of these batches, the first one batch k, may be applied to the list that it finds
abbrev pub MayBeAppliedBy : Key → ℕ → ℕ → ℕ → List Item → List DemandBatch → Type 0
MayBeAppliedBy key endpoints b k list [] = Unit {0}
MayBeAppliedBy key endpoints b k list (batch ∷ batches) = Applies endpoints batch list × MayBeAppliedBy key endpoints b (k + 1) (list_then_by key b k batch list) batches

abbrev pub MayBeApplied : ℕ → ℕ → ℕ → List Item → List DemandBatch → Type 0
MayBeApplied = MayBeAppliedBy last_served

-- a list that batches have left
pub record IsLeftBy (endpoints : ℕ) (batches : List DemandBatch) (list : List Item) : Type 0 where
  pub once : HasEachFlowOnce list
  pub below : AreBelow endpoints list
  pub apart : HaveTwoEnds list
  pub listed : (flow : Flow) → is_listed list flow ≡ is_recorded batches flow
  pub needs : (flow : Flow) → need_in (item_of list flow) ≤ demand_of batches flow

-- recorded batches may be applied one after the other, from the empty list on
pub record AreApplicableBy (key : Key) (endpoints b : ℕ) (batches : List DemandBatch) : Type 0 where
  pub in_order : AreInOrder [] batches
  pub may : MayBeAppliedBy key endpoints b 0 [] batches
  pub left : IsLeftBy endpoints batches (rest_by key b batches)

abbrev pub AreApplicable : ℕ → ℕ → List DemandBatch → Type 0
AreApplicable = AreApplicableBy last_served

abbrev pub RecordedBatchesMayBeAppliedBy : Key → Type 0
RecordedBatchesMayBeAppliedBy key = (endpoints b : ℕ) (limits : Limits) (batches : List DemandBatch) → AreRecorded endpoints limits batches → AreApplicableBy key endpoints b batches

abbrev pub RecordedBatchesMayBeApplied : Type 0
RecordedBatchesMayBeApplied = RecordedBatchesMayBeAppliedBy last_served

-- the first of them are recorded, and later ones may be applied to what these leave
abbrev pub EveryFrontIsRecorded : Type 0
EveryFrontIsRecorded =
    (endpoints : ℕ) (limits : Limits) (front later : List DemandBatch) → AreRecorded endpoints limits (front ++ later) → AreRecorded endpoints limits front

abbrev pub LaterBatchesMayBeAppliedBy : Key → Type 0
LaterBatchesMayBeAppliedBy key =
    (endpoints b : ℕ) (limits : Limits) (front later : List DemandBatch) → AreRecorded endpoints limits (front ++ later) → MayBeAppliedBy key endpoints b (length front) (rest_by key b front) later

abbrev pub LaterBatchesMayBeApplied : Type 0
LaterBatchesMayBeApplied = LaterBatchesMayBeAppliedBy last_served

-- what a slot of recorded batches is
pub record IsRecordedSlot (endpoints : ℕ) (limits : Limits) (need : Flow → ℕ) (slot : List Flow) : Type 0 where
  pub matching : IsMatching slot
  pub maximal : IsMaximal (is_barred limits) need slot
  pub keeps : KeepsLimits limits slot
  pub in_range : IsSlotOf endpoints slot

abbrev pub EveryRecordedSlotBy : Key → Type 0
EveryRecordedSlotBy key =
    (endpoints b : ℕ) (limits : Limits) (batches : List DemandBatch) → AreRecorded endpoints limits batches
    → (number : ℕ) → 0 < number → number ≤ length (schedule_by key b batches) → IsRecordedSlot endpoints limits (need_before_by key b batches number) (slot_at (schedule_by key b batches) number)

abbrev pub EveryRecordedSlot : Type 0
EveryRecordedSlot = EveryRecordedSlotBy last_served
