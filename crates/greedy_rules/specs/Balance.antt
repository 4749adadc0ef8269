-- What batches leave of the demand, flow by flow: what a flow still needs, and the slots that it got, are what its entries
-- added (this project's own profile).
-- A name that ends in By is said of lists sorted by any key; without By, of lists sorted by the slot in which a flow was last served.
use Rattle.std.specs.Prelude.{◌≡◌, ℕ, ◌+◌, ◌*◌, List, [], ◌∷◌, ◌++◌, length, drop, sum_by, Bool, false, not, ◌||◌, Option, Some, None, is_some, All}
use Rattle.std.specs.List.{list_any}
use Rattle.greedy_rules.specs.declared.flows.Flow.{Flow}
use Rattle.greedy_rules.specs.declared.flows.Item.{Item}
use Rattle.greedy_rules.specs.declared.flows.Entry.{Entry}
use Rattle.greedy_rules.specs.declared.limits.Limits.{Limits}
use Rattle.greedy_rules.specs.Batches.{DemandBatch, IsBatch, entry_of}
use Rattle.greedy_rules.specs.Demands.{Key, last_served, HasEachFlowOnce, AreBelow, OpensNewFlows, is_listed, item_of, need_in, need_with, opened, after_batch_by}
use Rattle.greedy_rules.specs.Limits.{is_barred}
use Rattle.greedy_rules.specs.Allocation.{batch_slots, list_after_slots_by, slots_of}
use Rattle.greedy_rules.specs.Schedule.{schedule_by, rest_by}

-- these entries came to this list, were given these slots, and left that list
pub record Balances (endpoints : ℕ) (entries : List Entry) (list left : List Item) (slots : List (List Flow)) : Type 0 where
  pub once : HasEachFlowOnce left
  pub in_range : AreBelow endpoints left
  pub listed : (flow : Flow) → is_listed left flow ≡ (is_listed list flow || is_some (entry_of entries flow))
  pub balance : (flow : Flow) → need_in (item_of left flow) + slots_of flow slots ≡ need_with (entry_of entries flow) (need_in (item_of list flow))

-- for any limits, entries and list, from slot `number` on, and `count` slots
abbrev pub EveryBatchBalancesBy : Key → Type 0
EveryBatchBalancesBy key =
    (limits : Limits) (endpoints number count : ℕ) (entries : List Entry) (list : List Item)
    → IsBatch entries → OpensNewFlows entries list → HasEachFlowOnce list → AreBelow endpoints (list ++ opened entries)
    → Balances endpoints entries list (list_after_slots_by key (is_barred limits) number count (after_batch_by key entries list)) (batch_slots (is_barred limits) number count (after_batch_by key entries list))

abbrev pub EveryBatchBalances : Type 0
EveryBatchBalances = EveryBatchBalancesBy last_served

-- some batch has an entry of the flow
abbrev pub is_recorded : List DemandBatch → Flow → Bool
is_recorded batches flow = list_any (λ batch. is_some (entry_of batch.entries flow)) batches

-- each batch rises, and an entry opens exactly where no batch before has its flow
abbrev pub AreInOrder : List DemandBatch → List DemandBatch → Type 0
AreInOrder before [] = Unit {0}
AreInOrder before (batch ∷ later) =
    IsBatch batch.entries × All (λ entry. entry.opens ≡ not (is_recorded before entry.flow)) batch.entries × AreInOrder (before ++ batch ∷ []) later

-- then the demand that is left has the flows of the batches, each once
abbrev pub EveryRestIsListedBy : Key → Type 0
EveryRestIsListedBy key =
    (b : ℕ) (batches : List DemandBatch) → AreInOrder [] batches
    → HasEachFlowOnce (rest_by key b batches) × ((flow : Flow) → is_listed (rest_by key b batches) flow ≡ is_recorded batches flow)

abbrev pub EveryRestIsListed : Type 0
EveryRestIsListed = EveryRestIsListedBy last_served

-- what the entries of a flow add, and whether none of them starts its need again at 0
abbrev pub added_by : Option Entry → ℕ
added_by None = 0
added_by (Some entry) = entry.add

abbrev pub added_of : Flow → List DemandBatch → ℕ
added_of flow batches = sum_by (λ batch. added_by (entry_of batch.entries flow)) batches

abbrev pub clears : Option Entry → Bool
clears None = false
clears (Some entry) = entry.clear

abbrev pub NoneClears : Flow → List DemandBatch → Type 0
NoneClears flow batches = All (λ batch. clears (entry_of batch.entries flow) ≡ false) batches

-- from any batch on whose later ones do not clear the flow: its slots, and what is left, are what it needed once that batch
-- was applied, and what the later ones added
abbrev pub EveryScheduleBalancesBy : Key → Type 0
EveryScheduleBalancesBy key =
    (b : ℕ) (front : List DemandBatch) (batch : DemandBatch) (later : List DemandBatch) (flow : Flow) → AreInOrder [] (front ++ batch ∷ later) → NoneClears flow later
    → slots_of flow (drop (length front * b) (schedule_by key b (front ++ batch ∷ later))) + need_in (item_of (rest_by key b (front ++ batch ∷ later)) flow)
    ≡ need_with (entry_of batch.entries flow) (need_in (item_of (rest_by key b front) flow)) + added_of flow later

abbrev pub EveryScheduleBalances : Type 0
EveryScheduleBalances = EveryScheduleBalancesBy last_served
