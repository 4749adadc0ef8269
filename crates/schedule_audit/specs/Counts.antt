-- The slots that count for a flow in a replay: those from its last reset on (this project's own profile).
use Rattle.std.specs.Prelude.{◌≡◌, ◌⊎◌, ℕ, zero, suc, ◌*◌, true, List, [], ◌∷◌, drop, None}
use Rattle.greedy_rules.specs.declared.flows.Flow.{Flow}
use Rattle.greedy_rules.specs.declared.limits.Limits.{Limits}
use Rattle.greedy_rules.specs.Batches.{DemandBatch, entry_of}
use Rattle.greedy_rules.specs.Allocation.{slots_of}
use Rattle.greedy_rules.specs.Schedule.{schedule}
use Rattle.greedy_rules.specs.Balance.{clears, NoneClears}
use Rattle.greedy_rules.specs.Recorded.{AreRecorded}
use Rattle.schedule_audit.specs.Wrong.{expected_of_batches, allocated_since}
use Rattle.schedule_audit.specs.Texts.{records_of}

-- the batch with this place clears the flow, and no later one does
abbrev pub FlowClearsAt : Flow → ℕ → List DemandBatch → Type 0
FlowClearsAt flow place [] = ⊥
FlowClearsAt flow zero (batch ∷ batches) = (clears (entry_of batch.entries flow) ≡ true) × NoneClears flow batches
FlowClearsAt flow (suc place) (batch ∷ batches) = FlowClearsAt flow place batches

-- no batch before this place has the flow, and none clears it
abbrev pub FlowOpensFrom : Flow → ℕ → List DemandBatch → Type 0
FlowOpensFrom flow zero batches = NoneClears flow batches
FlowOpensFrom flow (suc place) [] = ⊥
FlowOpensFrom flow (suc place) (batch ∷ batches) = (entry_of batch.entries flow ≡ None) × FlowOpensFrom flow place batches

-- then the slots since the flow's last clear are those from that batch on
abbrev pub SlotsBeginAtTheLastClear : Type 0
SlotsBeginAtTheLastClear =
    (endpoints b : ℕ) (limits : Limits) (batches : List DemandBatch) (flow : Flow) (place : ℕ) → AreRecorded endpoints limits batches
    → FlowClearsAt flow place batches ⊎ FlowOpensFrom flow place batches
    → allocated_since b (expected_of_batches b (records_of 0 batches) batches) flow ≡ slots_of flow (drop (place * b) (schedule b batches))
