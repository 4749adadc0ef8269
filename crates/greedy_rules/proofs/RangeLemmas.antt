-- The slots of a schedule rise by source, and are of the flows of the batches' entries.
use Rattle.std.proofs.Common.{◌≢◌, ◌<◌, ℕ, List, [], ◌∷◌, nat_lt, IsTrue, All, AllPairs, arith}
use Rattle.std.proofs.lemmas.Bool.{cond_both, ltb-true, ltb-false}
use Rattle.std.proofs.lemmas.List.Elements.{All-nil, All-cons, All-head, All-tail, All-weaker}
use Rattle.greedy_rules.specs.declared.flows.Flow.{Flow}
use Rattle.greedy_rules.specs.declared.flows.Item.{Item}
use Rattle.greedy_rules.specs.declared.limits.Limits.{Limits}
use Rattle.greedy_rules.specs.Batches.{DemandBatch}
use Rattle.greedy_rules.specs.Demands.{Key, last_served, AreBelow}
use Rattle.greedy_rules.specs.Slot.{slot_with}
use Rattle.greedy_rules.specs.Limits.{is_barred}
use Rattle.greedy_rules.specs.SlotTable.{IsSlotOf}
use Rattle.greedy_rules.specs.Allocation.{batch_slots}
use Rattle.greedy_rules.specs.Matching.{AreAmong, HoldsOfEntries, EverySlotIsInRangeBy, EverySlotsFlowsAreOfEntriesBy, EveryFlowLeftIsOfEntriesBy, EverySlotIsInRange, EverySlotsFlowsAreOfEntries, EveryFlowLeftIsOfEntries}
use Rattle.list_facts.proofs.Pairs.{AllPairs-nil, AllPairs-cons, AllPairs-head, AllPairs-tail}
use Rattle.greedy_rules.proofs.SlotLemmas.{Apart, apart_from_all, All-slot_with, Keeps}
use Rattle.greedy_rules.proofs.BarLemmas.{not_taken}
use Rattle.greedy_rules.proofs.KeptLemmas.{All-batch_slots, All-scheduleBy, flows-rest_from_by}

abbrev Earlier : Flow → Flow → Type 0
Earlier f g = f.src < g.src

-- a flow that shares no source with the slot comes to its place
rising-slot_with : (flow : Flow) (slot : List Flow) → All (λ g. Apart g flow) slot → AllPairs Earlier slot → AllPairs Earlier (slot_with flow slot)
rising-slot_with flow [] free rising = AllPairs-cons Earlier flow [] (All-nil (Earlier flow)) (AllPairs-nil Earlier)
rising-slot_with flow (next ∷ slot) free rising =
    let head = All-head (λ g. Apart g flow) next slot free in
    let later = AllPairs-head Earlier next slot rising in
    cond_both (nat_lt next.src flow.src) (next ∷ slot_with flow slot) (flow ∷ (next ∷ slot)) (AllPairs Earlier)
    (λ before. AllPairs-cons Earlier next (slot_with flow slot) (All-slot_with (Earlier next) flow slot (ltb-true _ _ before) later)
    (rising-slot_with flow slot (All-tail (λ g. Apart g flow) next slot free) (AllPairs-tail Earlier next slot rising)))
    (λ behind.
    let differs : next.src ≢ flow.src = head.0 in
    let first : flow.src < next.src = omega (arith, ltb-false _ _ behind) in
    AllPairs-cons Earlier flow (next ∷ slot)
    (All-cons (Earlier flow) next slot first (All-weaker (Earlier next) (Earlier flow) (λ g lt. omega arith) slot later)) rising)

abbrev pub IsBetween : ℕ → Flow → Type 0
IsBetween endpoints flow = (flow.src < endpoints) × (flow.dst < endpoints)

keeps_slots : (limits : Limits) (endpoints : ℕ) → Keeps (is_barred limits) (IsBetween endpoints) (IsSlotOf endpoints)
keeps_slots limits endpoints slot flow below free is = record {
  rising = rising-slot_with flow slot (apart_from_all slot flow (not_taken limits slot flow free)) is.rising;
  in_range = All-slot_with (IsBetween endpoints) flow slot below is.in_range;
}

empty_slot : (endpoints : ℕ) → IsSlotOf endpoints []
empty_slot endpoints = record { rising = AllPairs-nil Earlier; in_range = All-nil (IsBetween endpoints) }

pub slots-batch : (limits : Limits) (endpoints number count : ℕ) (list : List Item) → AreBelow endpoints list → All (IsSlotOf endpoints) (batch_slots (is_barred limits) number count list)
slots-batch limits endpoints number count list below =
    All-batch_slots (is_barred limits) (IsBetween endpoints) (IsSlotOf endpoints) (keeps_slots limits endpoints) (empty_slot endpoints) number count list below

pub every_slot_in_range_by : (key : Key) → EverySlotIsInRangeBy key
every_slot_in_range_by key endpoints b batches among =
    All-scheduleBy key (IsBetween endpoints) (IsSlotOf endpoints) (empty_slot endpoints) b batches
    (All-weaker (λ (batch : DemandBatch). AreAmong endpoints batch.entries) (λ batch. All (λ entry. IsBetween endpoints entry.flow) batch.entries × Keeps (is_barred batch.limits) (IsBetween endpoints) (IsSlotOf endpoints))
    (λ batch within. (within, keeps_slots batch.limits endpoints)) batches among)

pub every_slots_flows_by : (key : Key) → EverySlotsFlowsAreOfEntriesBy key
every_slots_flows_by key test b batches hold =
    let Q : Flow → Type 0 = λ flow. IsTrue (test flow) in
    All-scheduleBy key Q (All Q) (All-nil Q) b batches
    (All-weaker (λ (batch : DemandBatch). HoldsOfEntries test batch.entries) (λ batch. All (λ entry. Q entry.flow) batch.entries × Keeps (is_barred batch.limits) Q (All Q))
    (λ batch holds. (holds, λ slot flow here free there. All-slot_with Q flow slot here there)) batches hold)

pub every_flow_left_by : (key : Key) → EveryFlowLeftIsOfEntriesBy key
every_flow_left_by key test b batches hold = flows-rest_from_by key (λ flow. IsTrue (test flow)) b 0 [] batches hold (All-nil (λ (item : Item). IsTrue (test item.flow)))

-- ---- by the slot in which a flow was last served

pub every_slot_in_range : EverySlotIsInRange
every_slot_in_range = every_slot_in_range_by last_served

pub every_slots_flows : EverySlotsFlowsAreOfEntries
every_slots_flows = every_slots_flows_by last_served

pub every_flow_left : EveryFlowLeftIsOfEntries
every_flow_left = every_flow_left_by last_served
