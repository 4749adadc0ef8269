-- What each slot of recorded batches is: a matching that no waiting demand could join, within the cores of each rack, on paths
-- that share no link (the SIGCOMM 2014 Fastpass paper).
use Rattle.std.specs.Prelude.{◌<◌, ◌≤◌, ◌+◌, ◌-◌, ℕ, List, length}
use Rattle.greedy_rules.specs.declared.flows.Flow.{Flow}
use Rattle.greedy_rules.specs.Batches.{DemandBatch}
use Rattle.greedy_rules.specs.Limits.{is_barred, KeepsLimits}
use Rattle.greedy_rules.specs.Matching.{IsMatching, IsMaximal}
use Rattle.greedy_rules.specs.Schedule.{schedule, slot_in, slot_at, need_before}
use Rattle.clos_topology.specs.Network.{Network}
use Rattle.clos_topology.specs.Links.{CoreOf, IsClean}
use Rattle.clos_topology.specs.NetSlots.{limits_of}
use Rattle.path_workers.specs.CoreTable.{CoreSlots, core_of}
use Rattle.window_allocation.specs.Nets.{AreOfNet}

pub record IsScheduled (net : Network) (need : Flow → ℕ) (slot : List Flow) (core_of : CoreOf) : Type 0 where
  pub matching : IsMatching slot
  pub maximal : IsMaximal (is_barred (limits_of net)) need slot
  pub within_cores : KeepsLimits (limits_of net) slot
  pub clean : IsClean net.hosts net.cores slot core_of

-- so is every slot of the batches' schedule with these cores
abbrev pub EverySlotIsScheduled : ℕ → Network → List DemandBatch → (ℕ → CoreOf) → Type 0
EverySlotIsScheduled b net batches cores =
    (number : ℕ) → 0 < number → number ≤ length (schedule b batches) → IsScheduled net (need_before b batches number) (slot_at (schedule b batches) number) (cores number)

-- there are cores that do that
abbrev pub HasCores : ℕ → Network → List DemandBatch → Type 0
HasCores b net batches = (cores : ℕ → CoreOf) × EverySlotIsScheduled b net batches cores

-- for all recorded batches
abbrev pub EveryRecordHasCores : Type 0
EveryRecordHasCores = (b : ℕ) (net : Network) (batches : List DemandBatch) → AreOfNet net batches → HasCores b net batches

-- slots from this number on, each clean with its cores
abbrev pub AreClean : Network → (ℕ → CoreOf) → ℕ → List (List Flow) → Type 0
AreClean net cores first slots = (at : ℕ) → at < length slots → IsClean net.hosts net.cores (slot_in slots at) (cores (first + at))

-- the cores of a table whose first slot has this number
abbrev pub cores_from : ℕ → CoreSlots → ℕ → CoreOf
cores_from first table number = core_of table (number - first)
