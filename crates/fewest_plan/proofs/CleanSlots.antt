-- Cores for the slots of recorded batches, by any key: that there are some.
use Rattle.std.proofs.Common.{◌<◌, ◌≤◌, ℕ, List, length, ◌&&◌, nat_lt, nat_le, None, inl, inr}
use Rattle.std.proofs.lemmas.Bool.{cases_Bool, and_parts, and_from, ltb-true, leb-true, lt-ltb, le-leb}
use Rattle.greedy_rules.specs.declared.flows.Flow.{Flow}
use Rattle.greedy_rules.specs.Batches.{DemandBatch}
use Rattle.greedy_rules.specs.Demands.{Key}
use Rattle.greedy_rules.specs.Schedule.{schedule_by, slot_at}
use Rattle.greedy_rules.specs.Recorded.{EveryRecordedSlotBy}
use Rattle.clos_topology.specs.Network.{Network, endpoints_of}
use Rattle.clos_topology.specs.Links.{CoreOf, IsClean}
use Rattle.clos_topology.specs.NetSlots.{limits_of}
use Rattle.path_workers.specs.Degrees.{LimitsAreDegrees}
use Rattle.path_workers.specs.Colouring.{EveryMatchingHasCleanCores}
use Rattle.window_allocation.specs.Nets.{AreOfNet}
use Rattle.fewest_plan.specs.Scheduled.{EveryRecordHasCoresBy}

-- a slot has some cores that make it clean
clean_at : (key : Key) (b : ℕ) (net : Network) (batches : List DemandBatch) → AreOfNet net batches → EveryRecordedSlotBy key → LimitsAreDegrees → EveryMatchingHasCleanCores → (number : ℕ)
    → (core_of : CoreOf) × (0 < number → number ≤ length (schedule_by key b batches) → IsClean net.hosts net.cores (slot_at (schedule_by key b batches) number) core_of)
clean_at key b net batches recorded slots degrees clean number =
    let all : List (List Flow) = schedule_by key b batches in
    elim (cases_Bool (nat_lt 0 number && nat_le number (length all))) [
      | inl is ↦
          let parts = and_parts (nat_lt 0 number) (nat_le number (length all)) is in
          let slot = slots (endpoints_of net) b (limits_of net) batches recorded number (ltb-true _ _ parts.0) (leb-true _ _ parts.1) in
          let found = clean net.hosts net.cores (slot_at all number) slot.matching ((degrees (limits_of net) (slot_at all number)).0 slot.keeps) in
          (found.0, λ p w. found.1)
      | inr not ↦
          let other : CoreOf = λ source. None in
          (other, λ positive within. let both = and_from (nat_lt 0 number) (nat_le number (length all)) (lt-ltb _ _ positive) (le-leb _ _ within) in absurd cc)
    ]

pub record_has_cores : (key : Key) → EveryRecordedSlotBy key → LimitsAreDegrees → EveryMatchingHasCleanCores → EveryRecordHasCoresBy key
record_has_cores key slots degrees clean b net batches recorded = (
  λ number. (clean_at key b net batches recorded slots degrees clean number).0,
  λ number positive within.
      let slot = slots (endpoints_of net) b (limits_of net) batches recorded number positive within in
      record { matching = slot.matching; maximal = slot.maximal; within_cores = slot.keeps; clean = (clean_at key b net batches recorded slots degrees clean number).1 positive within },
)
