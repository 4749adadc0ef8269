-- What each slot of recorded batches is where lists are sorted by a key: a matching that no waiting demand could join, within the
-- cores of each rack, on paths that share no link (the SIGCOMM 2014 Fastpass paper).
use Rattle.std.specs.Prelude.{◌≡◌, ◌<◌, ◌≤◌, ◌*◌, ℕ, List, length, take, drop}
use Rattle.greedy_rules.specs.declared.flows.Flow.{Flow}
use Rattle.greedy_rules.specs.Batches.{DemandBatch}
use Rattle.greedy_rules.specs.Demands.{Key}
use Rattle.greedy_rules.specs.Schedule.{first_slot, schedule_by, slot_at, need_before_by}
use Rattle.clos_topology.specs.Network.{Network}
use Rattle.clos_topology.specs.NetSlots.{SlotCores}
use Rattle.trace_text.specs.Trace.{TraceContent}
use Rattle.trace_text.specs.Valid.{IsTrace}
use Rattle.plan_rounds.specs.Batches.{plan_batches}
use Rattle.window_allocation.specs.Nets.{AreOfNet}
use Rattle.window_allocation.specs.Scheduled.{IsScheduled, AreClean}

-- so is every slot of the batches' schedule with these cores
abbrev pub EverySlotIsScheduledBy : Key → ℕ → Network → List DemandBatch → SlotCores → Type 0
EverySlotIsScheduledBy key b net batches cores =
    (number : ℕ) → 0 < number → number ≤ length (schedule_by key b batches) → IsScheduled net (need_before_by key b batches number) (slot_at (schedule_by key b batches) number) (cores number)

-- there are cores that do that
abbrev pub HasCoresBy : Key → ℕ → Network → List DemandBatch → Type 0
HasCoresBy key b net batches = (cores : SlotCores) × EverySlotIsScheduledBy key b net batches cores

-- for all recorded batches
abbrev pub EveryRecordHasCoresBy : Key → Type 0
EveryRecordHasCoresBy key = (b : ℕ) (net : Network) (batches : List DemandBatch) → AreOfNet net batches → HasCoresBy key b net batches

-- with some cores every slot of the trace's schedule is so, and what is told of them holds
abbrev pub WithCoresBy : Key → ℕ → TraceContent → (SlotCores → Type 0) → Type 0
WithCoresBy key b trace holds = (cores : SlotCores) × EverySlotIsScheduledBy key b trace.net (plan_batches trace) cores × holds cores

-- the slots of so many batches from this one on
abbrev pub window_slots_by : Key → ℕ → List DemandBatch → ℕ → ℕ → List (List Flow)
window_slots_by key b batches first count = take (count * b) (drop (first * b) (schedule_by key b batches))

-- some cores make these slots clean, and what is told of them holds
abbrev pub WithCoresOfWindowBy : Key → ℕ → ℕ → ℕ → TraceContent → (SlotCores → Type 0) → Type 0
WithCoresOfWindowBy key b first count trace holds = (cores : SlotCores) × AreClean trace.net cores (first_slot b first) (window_slots_by key b (plan_batches trace) first count) × holds cores

-- a plan has a batch for each round, and b slots for each batch
abbrev pub EveryPlanHasItsSlotsBy : Key → Type 0
EveryPlanHasItsSlotsBy key =
    (b : ℕ) (trace : TraceContent) → IsTrace trace → (length (plan_batches trace) ≡ trace.rounds) × (length (schedule_by key b (plan_batches trace)) ≡ trace.rounds * b)
