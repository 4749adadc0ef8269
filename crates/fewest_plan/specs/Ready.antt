-- What the next window of a plan is fit for: its batches may be served by need, and the path workers colour their slots (this
-- project's own profile).
use Rattle.std.specs.Prelude.{◌≡◌, ◌≤◌, ℕ, ◌+◌, ◌*◌, List, length, take, drop, All}
use Rattle.greedy_rules.specs.Batches.{DemandBatch}
use Rattle.greedy_rules.specs.Schedule.{schedule_from_by, rest_by, rest_from_by}
use Rattle.greedy_rules.specs.Examples.{remaining}
use Rattle.trace_text.specs.Trace.{TraceContent}
use Rattle.trace_text.specs.Valid.{IsTrace}
use Rattle.window_allocation.specs.Ready.{IsFit}
use Rattle.plan_rounds.specs.Batches.{plan_batches}
use Rattle.fewest_plan.specs.declared.planner.Planner.{Planner}
use Rattle.fewest_plan.specs.Scheduled.{window_slots_by}
use Rattle.fewest_plan.specs.Standing.{HasPlanned, MayAllBeServed, planner_window}

-- these batches, so many, the first of which has this number
pub record PlanIsReady (trace : TraceContent) (planner : Planner) (first count : ℕ) (batches : List DemandBatch) : Type 0 where
  pub within : planner.collection.rounds + count ≤ trace.rounds
  pub few : count ≤ planner.g
  pub number : length batches ≡ count
  pub may : MayAllBeServed planner.order.endpoints planner.b first planner.order.items batches
  pub slots : schedule_from_by remaining planner.b first planner.order.items batches ≡ window_slots_by remaining planner.b (plan_batches trace) planner.collection.rounds count
  pub long : length (schedule_from_by remaining planner.b first planner.order.items batches) ≡ count * planner.b
  pub left : rest_from_by remaining planner.b first planner.order.items batches ≡ rest_by remaining planner.b (take (planner.collection.rounds + count) (plan_batches trace))
  pub fit : All (IsFit planner.paths.net) (schedule_from_by remaining planner.b first planner.order.items batches)

abbrev pub EveryFewestWindowIsReady : Type 0
EveryFewestWindowIsReady =
    (trace : TraceContent) (planner : Planner) (first count : ℕ) (batches : List DemandBatch) → IsTrace trace → HasPlanned trace planner → first ≡ planner.collection.rounds → count ≡ planner_window trace planner
    → batches ≡ take count (drop planner.collection.rounds (plan_batches trace)) → PlanIsReady trace planner first count batches
