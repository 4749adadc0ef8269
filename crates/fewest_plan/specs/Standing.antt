-- What a planner stands for: a trace, of which some rounds are planned by need (this project's own profile).
use Rattle.std.specs.Prelude.{◌≡◌, ◌<◌, ◌≤◌, ℕ, ◌+◌, ◌-◌, ◌*◌, List, length, take, drop, min}
use Rattle.greedy_rules.specs.declared.flows.Item.{Item}
use Rattle.greedy_rules.specs.Batches.{DemandBatch}
use Rattle.greedy_rules.specs.Schedule.{first_slot, rest_by, rest_from_by}
use Rattle.greedy_rules.specs.Examples.{remaining}
use Rattle.clos_topology.specs.Network.{endpoints_of}
use Rattle.window_allocation.specs.Scheduled.{AreClean}
use Rattle.fewest_order.specs.FewestFirst.{MayServe}
use Rattle.trace_text.specs.Trace.{TraceContent}
use Rattle.trace_text.specs.Valid.{IsTrace}
use Rattle.plan_rounds.specs.Batches.{plan_batches}
use Rattle.plan_rounds.specs.Standing.{HasCollected}
use Rattle.fewest_plan.specs.declared.planner.Planner.{Planner}
use Rattle.fewest_plan.specs.declared.planner.Window.{Window}
use Rattle.fewest_plan.specs.Barred.{batch_of_round}
use Rattle.fewest_plan.specs.Progress.{cores_of_window}
use Rattle.fewest_plan.specs.Scheduled.{window_slots_by}

-- the rounds that it has collected are planned
pub record HasPlanned (trace : TraceContent) (planner : Planner) : Type 0 where
  pub window : (0 < planner.g) × (planner.g ≤ 16)
  pub size : (0 < planner.b) × (planner.b ≤ 64)
  pub collected : HasCollected trace planner.collection
  pub serves : planner.order.endpoints ≡ endpoints_of trace.net
  pub slots : planner.order.b ≡ planner.b
  pub left : planner.order.items ≡ rest_by remaining planner.b (take planner.collection.rounds (plan_batches trace))
  pub net : planner.paths.net ≡ trace.net
  pub colours : planner.paths.slots ≡ planner.g * planner.b

-- the rounds of the next window
abbrev pub planner_window : TraceContent → Planner → ℕ
planner_window trace planner = min planner.g (trace.rounds - planner.collection.rounds)

-- each of these batches, the first one batch k, may be served on the list that those before it leave
abbrev pub MayAllBeServed : ℕ → ℕ → ℕ → List Item → List DemandBatch → Type 0
MayAllBeServed endpoints b k list batches =
    (at : ℕ) → at < length batches → MayServe endpoints b (first_slot b (k + at)) (batch_of_round batches at).entries (rest_from_by remaining b k list (take at batches))

-- so may each batch of a plan
abbrev pub EveryPlanMayBeServed : Type 0
EveryPlanMayBeServed =
    (b k : ℕ) (trace : TraceContent) → IsTrace trace → 0 < b → b ≤ 64 → k < trace.rounds
    → MayServe (endpoints_of trace.net) b (first_slot b k) (batch_of_round (plan_batches trace) k).entries (rest_by remaining b (take k (plan_batches trace)))

-- a window of so many rounds of a plan from this one on: slot i of its batch s, both counted from 0, stands at place s * b + i
pub record IsPlanned (trace : TraceContent) (b first count : ℕ) (window : Window) : Type 0 where
  pub starts : window.first ≡ first
  pub batches : window.batches.items ≡ take count (drop first (plan_batches trace))
  pub slots : window.slots.slots ≡ window_slots_by remaining b (plan_batches trace) first count
  pub endpoints : window.slots.endpoints ≡ endpoints_of trace.net
  pub core_slots : window.cores.slots ≡ count * b
  pub core_endpoints : window.cores.endpoints ≡ endpoints_of trace.net
  pub clean : AreClean trace.net (cores_of_window b window) (first_slot b first) (window_slots_by remaining b (plan_batches trace) first count)
