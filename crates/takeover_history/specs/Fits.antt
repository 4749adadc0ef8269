-- What a program that keeps running counts of a log relies on: each next batch may be applied, a generation is one node's, and every
-- number is small. From this project's own profile.
use Rattle.std.specs.Prelude.{◌≡◌, ◌≢◌, ◌<◌, ◌≤◌, ℕ, ◌+◌, ◌*◌, nat_lt, List, ◌++◌, length, Some, All}
use Rattle.greedy_rules.specs.declared.flows.Flow.{Flow}
use Rattle.greedy_rules.specs.Batches.{IsBatch, entry_of}
use Rattle.greedy_rules.specs.Demands.{HasEachFlowOnce, AreBelow, OpensNewFlows, need_with, opened}
use Rattle.greedy_rules.specs.Balance.{is_recorded}
use Rattle.greedy_rules.specs.Cells.{flow_of}
use Rattle.takeover_history.specs.Events.{PairSetting, Event, Holder, Lease, BatchIssue, Log}
use Rattle.takeover_history.specs.Leases.{boot_of, sent_messages, leases, changes, lease_of, used_of}
use Rattle.takeover_history.specs.Endpoints.{asked_of_flow, issue_at, base_of, recorded_of_flow, sent}
use Rattle.takeover_history.specs.Batches.{published_batches, batches_only, list_of, published, entries_for}
use Rattle.takeover_history.specs.Steps.{log_of}

-- the next batch of a generation may be applied to the list that the earlier ones left, and an entry opens where nothing of its flow is
-- published
pub record MayBeNext (setting : PairSetting) (generation : ℕ) (log : Log) : Type 0 where
  pub once : HasEachFlowOnce (list_of setting generation log)
  pub below : AreBelow setting.endpoints (list_of setting generation log ++ opened (entries_for setting generation log))
  pub opens : OpensNewFlows (entries_for setting generation log) (list_of setting generation log)
  pub room : length (list_of setting generation log) + length (opened (entries_for setting generation log)) ≤ setting.endpoints * setting.endpoints
  pub needs : All (λ item. need_with (entry_of (entries_for setting generation log) item.flow) item.need ≤ asked_of_flow log item.flow) (list_of setting generation log)
  pub grows : (flow : Flow) → published setting generation log flow ≤ recorded_of_flow setting generation log flow
  pub is_new : (src dst : ℕ) → src < setting.endpoints → dst < setting.endpoints
      → is_recorded (batches_only (published_batches generation log)) (flow_of src dst) ≡ nat_lt 0 (published setting generation log (flow_of src dst))

abbrev pub EveryNextBatchMayBeApplied : Type 0
EveryNextBatchMayBeApplied = (setting : PairSetting) (events : List Event) (generation : ℕ) → MayBeNext setting generation (log_of setting events)

-- two nodes have no lease of one generation
abbrev pub NodesHaveOwnGenerations : Type 0
NodesHaveOwnGenerations =
    (setting : PairSetting) (events : List Event) (node other : ℕ) (lease its : Lease)
    → lease_of (log_of setting events) node ≡ Some lease → lease_of (log_of setting events) other ≡ Some its → node ≢ other → lease.generation ≢ its.generation

-- how many messages, leases, changes of the holder and boots there are, how high batches are numbered, how much is sent, and
-- how many slots a published batch has
pub record HasFewOf (setting : PairSetting) (log : Log) : Type 0 where
  pub messages : sent_messages log ≤ length log
  pub granted : length (leases log) ≤ length log
  pub changed : (holder : Holder) → changes holder (leases log) ≤ 1 + length log
  pub boots : (node : ℕ) → boot_of log node ≤ 1 + length log
  pub numbers : (node : ℕ) (lease : Lease) → lease_of log node ≡ Some lease → lease.first + setting.span ≤ setting.span * length log
  pub published : (node : ℕ) → used_of log node ≤ setting.span
  pub based : (flow : Flow) → base_of setting log flow ≤ asked_of_flow log flow
  pub sent : length (sent setting log) ≤ setting.b * length log
  pub issued : (number : ℕ) (issue : BatchIssue) → issue_at log number ≡ Some issue → (issue.number ≡ number) × (number < setting.span * length log) × (length issue.slots ≡ setting.b)

abbrev pub EveryLogHasFew : Type 0
EveryLogHasFew = (setting : PairSetting) (events : List Event) → (length (log_of setting events) ≡ length events) × HasFewOf setting (log_of setting events)
