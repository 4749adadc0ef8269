-- What a plan stands for between its steps: a trace, of which so many rounds are collected and their batches allocated (this project's
-- own profile).
use Rattle.std.specs.Prelude.{◌≡◌, ◌↔◌, ◌<◌, ◌≤◌, ℕ, ◌+◌, ◌-◌, ◌*◌, ◌/◌, List, length, take, min}
use Rattle.clos_topology.specs.Network.{endpoints_of}
use Rattle.window_allocation.specs.Needs.{Needs}
use Rattle.window_allocation.specs.Standing.{Allocated, HasAllocated}
use Rattle.trace_text.specs.Trace.{TraceContent}
use Rattle.trace_run.specs.Windows.{collected_after}
use Rattle.plan_rounds.specs.Batches.{plan_batches}
use Rattle.plan_rounds.specs.Standing.{Collected, HasCollected}

-- what contracts see of a plan: the half that collects and the one that allocates, the rounds of a window, those of the trace, and at
-- the end the slots pending of each flow
pub record PlanState : Type 0 where
  pub g : ℕ
  pub endpoints : ℕ
  pub rounds : ℕ
  pub collection : Collected
  pub allocation : Allocated
  pub pending : List ℕ

-- the plan has done so many rounds of the trace, both halves
pub record PlanStands (trace : TraceContent) (plan : PlanState) : Type 0 where
  pub window : (0 < plan.g) × (plan.g ≤ 16)
  pub endpoints : plan.endpoints ≡ endpoints_of trace.net
  pub rounds : plan.rounds ≡ trace.rounds
  pub collected : HasCollected trace plan.collection
  pub allocated : HasAllocated trace.net plan.g (take plan.collection.rounds (plan_batches trace)) plan.allocation
  pub ended : plan.collection.rounds ≡ trace.rounds → Needs (endpoints_of trace.net) plan.allocation.list.items plan.pending
  pub pending_room : length plan.pending ≡ endpoints_of trace.net * endpoints_of trace.net

-- the rounds of the next window
abbrev pub plan_window : PlanState → ℕ
plan_window plan = min plan.g (plan.rounds - plan.collection.rounds)

-- all are done exactly after as many steps as there are windows of g rounds, the last of which may be shorter
abbrev pub EveryPlanTakesItsSteps : Type 0
EveryPlanTakesItsSteps = (g rounds steps : ℕ) → 0 < g → (collected_after g rounds steps ≡ rounds) ↔ ((rounds + g - 1) / g ≤ steps)
