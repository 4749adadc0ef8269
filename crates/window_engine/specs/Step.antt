-- What a step gives: the rounds that it collected with what they give, and the slots and cores of the batches that it allocated (this
-- project's own profile).
use Rattle.std.specs.Prelude.{◌≡◌, ℕ, ◌*◌, List, [], take, drop, length}
use Rattle.greedy_rules.specs.declared.flows.Flow.{Flow}
use Rattle.greedy_rules.specs.Batches.{DemandBatch}
use Rattle.greedy_rules.specs.Schedule.{first_slot, schedule}
use Rattle.clos_topology.specs.NetSlots.{SlotCores}
pub use Rattle.window_allocation.specs.declared.window.Span.{Span}
use Rattle.window_allocation.specs.Windows.{WindowContent, IsWindowOf}
use Rattle.trace_text.specs.Trace.{TraceContent}
use Rattle.trace_text.specs.Valid.{IsTrace}
use Rattle.plan_rounds.specs.Batches.{plan_batches}
use Rattle.replay_rounds.specs.Played.{Played}
use Rattle.replay_rounds.specs.Standing.{AreOfTable}

-- what contracts see of a step
pub record StepContent : Type 0 where
  pub collected : Span
  pub played : Played
  pub window : WindowContent

-- the slots of so many batches from this one on
abbrev pub window_slots : ℕ → List DemandBatch → ℕ → ℕ → List (List Flow)
window_slots b batches first count = take (count * b) (drop (first * b) (schedule b batches))

-- a window of so many rounds of a plan from this one on, in which nothing is answered or sent: slot i of its batch s, both counted from 0, stands at place s * b + i
pub record StepIsPlanned (trace : TraceContent) (b first count : ℕ) (step : StepContent) : Type 0 where
  pub first_collected : step.collected.first ≡ first
  pub collected : step.collected.count ≡ count
  pub batches : step.played.batches ≡ take count (drop first (plan_batches trace))
  pub answers : step.played.answers ≡ []
  pub departures : step.played.departures ≡ []
  pub first_allocated : step.window.span.first ≡ first
  pub allocated : step.window.span.count ≡ count
  pub window : IsWindowOf trace.net b (window_slots b (plan_batches trace) first count) step.window

-- these cores are those of a step, for the slots of its batches of b slots each
abbrev pub HasCoresOf : ℕ → StepContent → SlotCores → Type 0
HasCoresOf b step cores = AreOfTable cores (first_slot b step.window.span.first) (step.window.span.count * b) step.window.cores

-- a plan has a batch for each round, and b slots for each batch
abbrev pub EveryPlanHasItsSlots : Type 0
EveryPlanHasItsSlots =
    (b : ℕ) (trace : TraceContent) → IsTrace trace → (length (plan_batches trace) ≡ trace.rounds) × (length (schedule b (plan_batches trace)) ≡ trace.rounds * b)
