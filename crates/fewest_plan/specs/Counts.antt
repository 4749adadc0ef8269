-- What batches come to for each flow where lists are sorted by a key: what was asked for, allocated, and is left (this project's
-- own profile).
use Rattle.std.specs.Prelude.{◌≡◌, ℕ, ◌+◌, ◌-◌, ◌==◌, List, Option, Some, None, if◌then◌else◌}
use Rattle.greedy_rules.specs.declared.flows.Flow.{Flow}
use Rattle.greedy_rules.specs.Batches.{DemandBatch}
use Rattle.greedy_rules.specs.Demands.{Key, item_of, need_in}
use Rattle.greedy_rules.specs.Allocation.{slots_of}
use Rattle.greedy_rules.specs.Schedule.{schedule_by, rest_by}
use Rattle.greedy_rules.specs.Balance.{is_recorded, added_of}
use Rattle.trace_text.specs.Trace.{TraceContent}
use Rattle.trace_text.specs.Valid.{IsTrace}
use Rattle.plan_rounds.specs.Batches.{plan_batches}
use Rattle.run_lines.specs.Text.{Counts}

-- the counts of a flow in a plan: nothing is acknowledged, lost, sent or missed
abbrev pub counts_by : Key → ℕ → List DemandBatch → Flow → Counts
counts_by key b batches flow = record {
  demanded = added_of flow batches;
  allocated = slots_of flow (schedule_by key b batches);
  acknowledged = 0;
  lost = 0;
  pending = need_in (item_of (rest_by key b batches) flow);
  sent = 0;
  missed = 0;
}

-- those of a flow that some batch has
abbrev pub counts_of_by : Key → ℕ → List DemandBatch → Flow → Option Counts
counts_of_by key b batches flow = if is_recorded batches flow then Some (counts_by key b batches flow) else None

-- each flow's demand was allocated or is pending
abbrev pub AllIsAllocatedOrPendingBy : Key → ℕ → List DemandBatch → Type 0
AllIsAllocatedOrPendingBy key b batches = (flow : Flow) → added_of flow batches ≡ slots_of flow (schedule_by key b batches) + need_in (item_of (rest_by key b batches) flow)

-- so it is in every plan
abbrev pub EveryPlanBalancesBy : Key → Type 0
EveryPlanBalancesBy key = (b : ℕ) (trace : TraceContent) → IsTrace trace → AllIsAllocatedOrPendingBy key b (plan_batches trace)

-- the counts that are told of a flow of which so many slots were asked for and so many are left
abbrev pub counts_told : ℕ → ℕ → Option Counts
counts_told demanded pending =
    if demanded == 0 then None else Some (record { demanded = demanded; allocated = demanded - pending; acknowledged = 0; lost = 0; pending = pending; sent = 0; missed = 0 })
