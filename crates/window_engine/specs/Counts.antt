-- What batches come to for each flow: what was asked for, allocated, and is left (this project's own profile).
use Rattle.std.specs.Prelude.{◌≡◌, ℕ, ◌+◌, List, Option, Some, None, if◌then◌else◌}
use Rattle.greedy_rules.specs.declared.flows.Flow.{Flow}
use Rattle.greedy_rules.specs.Batches.{DemandBatch}
use Rattle.greedy_rules.specs.Demands.{item_of, need_in}
use Rattle.greedy_rules.specs.Allocation.{slots_of}
use Rattle.greedy_rules.specs.Schedule.{schedule, rest}
use Rattle.greedy_rules.specs.Balance.{is_recorded, added_of}
use Rattle.trace_text.specs.Trace.{TraceContent}
use Rattle.trace_text.specs.Valid.{IsTrace}
use Rattle.window_engine.specs.declared.counts.Counts.{Counts}
use Rattle.plan_rounds.specs.Batches.{plan_batches}

-- the counts of a flow in a plan: nothing is acknowledged, lost, sent or missed
abbrev pub plan_counts : ℕ → List DemandBatch → Flow → Counts
plan_counts b batches flow = record {
  demanded = added_of flow batches;
  allocated = slots_of flow (schedule b batches);
  acknowledged = 0;
  lost = 0;
  pending = need_in (item_of (rest b batches) flow);
  sent = 0;
  missed = 0;
}

-- those of a flow that some batch has
abbrev pub counts_of : ℕ → List DemandBatch → Flow → Option Counts
counts_of b batches flow = if is_recorded batches flow then Some (plan_counts b batches flow) else None

-- each flow's demand was allocated or is pending
abbrev pub AllIsAllocatedOrPending : ℕ → List DemandBatch → Type 0
AllIsAllocatedOrPending b batches = (flow : Flow) → added_of flow batches ≡ slots_of flow (schedule b batches) + need_in (item_of (rest b batches) flow)

-- so it is in every plan
abbrev pub EveryPlanBalances : Type 0
EveryPlanBalances = (b : ℕ) (trace : TraceContent) → IsTrace trace → AllIsAllocatedOrPending b (plan_batches trace)
