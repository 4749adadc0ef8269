-- The batches of a run, and the demand list that they leave. From this project's own profile.
use Rattle.std.specs.Prelude.{◌≡◌, ◌<◌, ℕ, [], map, All}
use Rattle.greedy_rules.specs.Batches.{entry_of}
use Rattle.greedy_rules.specs.Demands.{HasEachFlowOnce, AreBelow, is_listed}
use Rattle.greedy_rules.specs.Matching.{AreAmong}
use Rattle.greedy_rules.specs.Schedule.{schedule, rest}
use Rattle.greedy_rules.specs.SlotTable.{IsSlotOf}
use Rattle.greedy_rules.specs.Balance.{AreInOrder}
use Rattle.endpoint_history.specs.Entries.{had}
use Rattle.endpoint_history.specs.Entries as lane
use Rattle.trace_run.specs.Run.{Setting, replayed}
use Rattle.trace_run.specs.Histories.{lane_after}

-- each batch rises, is of flows between the endpoints, and opens exactly those that no earlier batch has; the list that they leave has
-- the flows that some batch has, each once; and the entries of a flow are those of its lane
pub record IsApplicable (setting : Setting) (rounds : ℕ) : Type 0 where
  pub in_order : AreInOrder [] (replayed setting rounds).batches
  pub among : All (λ batch. AreAmong setting.endpoints batch.entries) (replayed setting rounds).batches
  pub same_limits : All (λ batch. batch.limits ≡ setting.limits) (replayed setting rounds).batches
  pub once : HasEachFlowOnce (rest setting.b (replayed setting rounds).batches)
  pub below : AreBelow setting.endpoints (rest setting.b (replayed setting rounds).batches)
  pub listed : (src dst : ℕ) → src < setting.endpoints → dst < setting.endpoints →
      is_listed (rest setting.b (replayed setting rounds).batches) (record { src = src; dst = dst }) ≡ had setting.g (lane_after setting rounds src) dst
  pub entries : (src dst : ℕ) → src < setting.endpoints → dst < setting.endpoints →
      map (λ batch. entry_of batch.entries (record { src = src; dst = dst })) (replayed setting rounds).batches
      ≡ lane.entries_of_batches src setting.g (lane_after setting rounds src) dst

abbrev pub EveryRunIsApplicable : Type 0
EveryRunIsApplicable = (setting : Setting) (rounds : ℕ) → IsApplicable setting rounds

-- so every slot is of flows between the endpoints, rising by source
abbrev pub EverySlotIsOfTheRun : Type 0
EverySlotIsOfTheRun = (setting : Setting) (rounds : ℕ) → All (IsSlotOf setting.endpoints) (schedule setting.b (replayed setting rounds).batches)
