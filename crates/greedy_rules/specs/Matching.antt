-- What a finished slot is, with no order in it (the SIGCOMM 2014 Fastpass paper): a matching, which no waiting demand could
-- join, and which keeps the limits of the racks.
-- A name that ends in By is said of lists sorted by any key; without By, of lists sorted by the slot in which a flow was last served.
use Rattle.std.specs.Prelude.{◌≡◌, ◌≢◌, ◌<◌, ◌≤◌, ℕ, List, [], length, Bool, IsTrue, Contains, All, AllPairs}
use Rattle.std.specs.List.{slice_index_or}
use Rattle.greedy_rules.specs.declared.flows.Flow.{Flow}
use Rattle.greedy_rules.specs.declared.flows.Item.{Item}
use Rattle.greedy_rules.specs.declared.flows.Entry.{Entry}
use Rattle.greedy_rules.specs.declared.limits.Limits.{Limits}
use Rattle.greedy_rules.specs.Slot.{Bar}
use Rattle.greedy_rules.specs.Limits.{is_barred, KeepsLimits}
use Rattle.greedy_rules.specs.SlotTable.{IsSlotOf}
use Rattle.greedy_rules.specs.Batches.{DemandBatch}
use Rattle.greedy_rules.specs.Demands.{Key, last_served, AreBelow, item_of, need_in}
use Rattle.greedy_rules.specs.Allocation.{batch_slots, batch_lists}
use Rattle.greedy_rules.specs.Schedule.{schedule_by, rest_by, slot_in, slot_at, limits_at, need_before_by}

-- no two flows have one source, and no two one destination
abbrev pub IsMatching : List Flow → Type 0
IsMatching slot = AllPairs (λ f g. (f.src ≢ g.src) × (f.dst ≢ g.dst)) slot

-- each flow that needs a slot and is not in this one is kept out by it
abbrev pub IsMaximal : Bar → (Flow → ℕ) → List Flow → Type 0
IsMaximal bar need slot = (flow : Flow) → 0 < need flow → ¬ Contains slot flow → IsTrue (bar slot flow)

pub record IsMaximalMatching (limits : Limits) (need : Flow → ℕ) (slot : List Flow) : Type 0 where
  pub matching : IsMatching slot
  pub maximal : IsMaximal (is_barred limits) need slot

-- for any batches and any batch size, each slot by the limits of its batch
abbrev pub EverySlotIsAMaximalMatchingBy : Key → Type 0
EverySlotIsAMaximalMatchingBy key =
    (b : ℕ) (batches : List DemandBatch) (number : ℕ) → 0 < number → number ≤ length (schedule_by key b batches)
    → IsMaximalMatching (limits_at b batches number) (need_before_by key b batches number) (slot_at (schedule_by key b batches) number)

abbrev pub EverySlotIsAMaximalMatching : Type 0
EverySlotIsAMaximalMatching = EverySlotIsAMaximalMatchingBy last_served

-- for any list that a batch finds, and any number of its first slot: as many slots as it is to fill, each a matching within the
-- limits that no demand which waits before it could join, and of flows between the endpoints of the list's flows
pub record AreMaximalMatchings (limits : Limits) (number count : ℕ) (list : List Item) : Type 0 where
  pub counted : length (batch_slots (is_barred limits) number count list) ≡ count
  pub matchings : All IsMatching (batch_slots (is_barred limits) number count list)
  pub maximal : (at : ℕ) → at < count
      → IsMaximal (is_barred limits) (λ flow. need_in (item_of (slice_index_or (batch_lists (is_barred limits) number count list) at []) flow)) (slot_in (batch_slots (is_barred limits) number count list) at)
  pub limited : All (KeepsLimits limits) (batch_slots (is_barred limits) number count list)
  pub in_range : (endpoints : ℕ) → AreBelow endpoints list → All (IsSlotOf endpoints) (batch_slots (is_barred limits) number count list)

abbrev pub EverySlotOfABatchIsAMaximalMatching : Type 0
EverySlotOfABatchIsAMaximalMatching = (limits : Limits) (number count : ℕ) (list : List Item) → AreMaximalMatchings limits number count list

abbrev pub EverySlotKeepsItsLimitsBy : Key → Type 0
EverySlotKeepsItsLimitsBy key = (b : ℕ) (batches : List DemandBatch) (number : ℕ) → KeepsLimits (limits_at b batches number) (slot_at (schedule_by key b batches) number)

abbrev pub EverySlotKeepsItsLimits : Type 0
EverySlotKeepsItsLimits = EverySlotKeepsItsLimitsBy last_served

-- where all batches have the same
abbrev pub EverySlotKeepsTheLimitsBy : Key → Type 0
EverySlotKeepsTheLimitsBy key =
    (b : ℕ) (limits : Limits) (batches : List DemandBatch) → All (λ batch. batch.limits ≡ limits) batches → All (KeepsLimits limits) (schedule_by key b batches)

abbrev pub EverySlotKeepsTheLimits : Type 0
EverySlotKeepsTheLimits = EverySlotKeepsTheLimitsBy last_served

-- whatever holds of every entry's flow holds of every slot's flow
abbrev pub HoldsOfEntries : (Flow → Bool) → List Entry → Type 0
HoldsOfEntries test entries = All (λ entry. IsTrue (test entry.flow)) entries

abbrev pub EverySlotsFlowsAreOfEntriesBy : Key → Type 0
EverySlotsFlowsAreOfEntriesBy key =
    (test : Flow → Bool) (b : ℕ) (batches : List DemandBatch) → All (λ batch. HoldsOfEntries test batch.entries) batches
    → All (All (λ flow. IsTrue (test flow))) (schedule_by key b batches)

abbrev pub EverySlotsFlowsAreOfEntries : Type 0
EverySlotsFlowsAreOfEntries = EverySlotsFlowsAreOfEntriesBy last_served

-- and of every flow that is left
abbrev pub EveryFlowLeftIsOfEntriesBy : Key → Type 0
EveryFlowLeftIsOfEntriesBy key =
    (test : Flow → Bool) (b : ℕ) (batches : List DemandBatch) → All (λ batch. HoldsOfEntries test batch.entries) batches → All (λ item. IsTrue (test item.flow)) (rest_by key b batches)

abbrev pub EveryFlowLeftIsOfEntries : Type 0
EveryFlowLeftIsOfEntries = EveryFlowLeftIsOfEntriesBy last_served

-- the entries are of flows between so many endpoints
abbrev pub AreAmong : ℕ → List Entry → Type 0
AreAmong endpoints entries = All (λ entry. (entry.flow.src < endpoints) × (entry.flow.dst < endpoints)) entries

-- and so are then the slots, whose flows rise by source
abbrev pub EverySlotIsInRangeBy : Key → Type 0
EverySlotIsInRangeBy key = (endpoints b : ℕ) (batches : List DemandBatch) → All (λ batch. AreAmong endpoints batch.entries) batches → All (IsSlotOf endpoints) (schedule_by key b batches)

abbrev pub EverySlotIsInRange : Type 0
EverySlotIsInRange = EverySlotIsInRangeBy last_served
