-- What is kept of each flow while the batches of a text go by (this project's own profile).
use Rattle.std.specs.Prelude.{◌≡◌, ◌≤◌, ◌⊎◌, ℕ, ◌+◌, ◌*◌, ◌==◌, not, List, length, take, is_some, if◌then◌else◌}
use Rattle.greedy_rules.specs.declared.flows.Flow.{Flow}
use Rattle.greedy_rules.specs.declared.flows.Entry.{Entry}
use Rattle.greedy_rules.specs.Batches.{DemandBatch, entry_of}
use Rattle.greedy_rules.specs.Allocation.{slots_of}
use Rattle.greedy_rules.specs.Schedule.{schedule}
use Rattle.greedy_rules.specs.Balance.{is_recorded, added_by, clears}
use Rattle.schedule_audit.specs.declared.ledger.Ledger.{Ledger}
use Rattle.schedule_audit.specs.FlowNumbers.{Numbers, flow_number_of}
use Rattle.schedule_audit.specs.Wrong.{added_in_all}
use Rattle.schedule_audit.specs.Counts.{FlowClearsAt, FlowOpensFrom}
use Rattle.schedule_audit.specs.Texts.{records_of}

-- these entries were entered, where each flow had so many slots
pub record Enters (entries : List Entry) (slots : Numbers) (old new : Ledger) : Type 0 where
  pub seen : (flow : Flow) → flow_number_of new.seen flow ≡ (if is_some (entry_of entries flow) then 1 else flow_number_of old.seen flow)
  pub added : (flow : Flow) → flow_number_of new.added flow ≡ flow_number_of old.added flow + added_by (entry_of entries flow)
  pub few : (flow : Flow) → flow_number_of new.added flow ≤ flow_number_of old.added flow + 4294967295
  pub cleared : (flow : Flow) → flow_number_of new.cleared flow ≡ (if clears (entry_of entries flow) then flow_number_of slots flow else flow_number_of old.cleared flow)

-- there is a number for each flow
pub record AreSized (endpoints : ℕ) (ledger : Ledger) : Type 0 where
  pub seen : ledger.seen.endpoints ≡ endpoints
  pub added : ledger.added.endpoints ≡ endpoints
  pub cleared : ledger.cleared.endpoints ≡ endpoints

-- a flow's slots in the batches before its last clear, or before any batch that has it
abbrev pub IsCleared : ℕ → List DemandBatch → Flow → ℕ → Type 0
IsCleared b batches flow number =
    (place : ℕ) × (FlowClearsAt flow place batches ⊎ FlowOpensFrom flow place batches) × (number ≡ slots_of flow (take (place * b) (schedule b batches)))

-- these batches went by
pub record LedgerStands (b : ℕ) (batches : List DemandBatch) (ledger : Ledger) : Type 0 where
  pub seen : (flow : Flow) → (flow_number_of ledger.seen flow == 0) ≡ not (is_recorded batches flow)
  pub added : (flow : Flow) → flow_number_of ledger.added flow ≡ added_in_all flow (records_of 0 batches)
  pub few : (flow : Flow) → flow_number_of ledger.added flow ≤ length batches * 4294967295
  pub cleared : (flow : Flow) → IsCleared b batches flow (flow_number_of ledger.cleared flow)
