-- A window of batches with their slots and cores (this project's own profile).
use Rattle.std.specs.Prelude.{◌≡◌, ◌<◌, ℕ, ◌+◌, ◌*◌, ◌==◌, List, length, if◌then◌else◌}
use Rattle.greedy_rules.specs.declared.flows.Flow.{Flow}
use Rattle.greedy_rules.specs.SlotTable.{Slots}
use Rattle.greedy_rules.specs.Schedule.{first_slot, slot_in}
use Rattle.clos_topology.specs.Network.{Network, endpoints_of}
use Rattle.path_workers.specs.Coloured.{NamesNoOther}
use Rattle.path_workers.specs.CoreTable.{CoreSlots, core_of}
use Rattle.window_allocation.specs.Scheduled.{AreClean, cores_from}
use Rattle.window_allocation.specs.declared.window.Span.{Span}

-- what contracts see of a window
pub record WindowContent : Type 0 where
  pub span : Span
  pub slots : Slots
  pub cores : CoreSlots

-- a window's tables hold these slots, each with cores that make it clean; the first slot's number is that of its first batch
pub record IsWindowOf (net : Network) (b : ℕ) (slots : List (List Flow)) (window : WindowContent) : Type 0 where
  pub is : window.slots.slots ≡ slots
  pub number : length slots ≡ window.span.count * b
  pub endpoints : window.slots.endpoints ≡ endpoints_of net
  pub core_slots : window.cores.slots ≡ window.span.count * b
  pub core_endpoints : window.cores.endpoints ≡ endpoints_of net
  pub clean : AreClean net (cores_from (first_slot b window.span.first) window.cores) (first_slot b window.span.first) slots
  pub others : (at : ℕ) → at < length slots → NamesNoOther net.hosts (slot_in slots at) (core_of window.cores at)

-- a window's tables are for just so many slots of so many endpoints
pub record HasTables (count ends : ℕ) (window : WindowContent) : Type 0 where
  pub slots : length window.slots.slots ≡ count
  pub endpoints : window.slots.endpoints ≡ ends
  pub core_slots : window.cores.slots ≡ count
  pub core_endpoints : window.cores.endpoints ≡ ends

-- the jobs of so many batches of b slots: each slot is one, and each path worker's end; none where there is no batch
abbrev pub jobs_for : ℕ → ℕ → ℕ → ℕ
jobs_for count b paths = if count == 0 then 0 else count * b + paths
