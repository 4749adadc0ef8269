-- What is given out for the windows of a plan.
use Rattle.std.specs.Prelude.{ℕ, ◌*◌, List, take, drop}
use Rattle.greedy_rules.specs.Schedule.{schedule}
use Rattle.clos_topology.specs.NetSlots.{SlotCores}
use Rattle.report_text.specs.declared.line.Line.{Line}
use Rattle.trace_text.specs.Trace.{TraceContent}
use Rattle.window_engine.specs.Batches.{plan_batches}
use Rattle.window_engine.specs.Standing.{EngineState, engine_window}
use Rattle.window_engine.specs.Step.{StepContent, window_slots}
use Rattle.run_lines.specs.Steps.{cores_of_step}
use Rattle.run_text.specs.PlanText.{batches_lines}

-- so many rounds from this one on
abbrev pub window_lines : SlotCores → ℕ → ℕ → ℕ → TraceContent → List Line
window_lines cores b first count trace = batches_lines cores b first (take count (drop first (plan_batches trace))) (window_slots b (plan_batches trace) first count)

-- the batches of a step, each with its slots
abbrev pub lines_of_step : ℕ → StepContent → List Line
lines_of_step b step = batches_lines (cores_of_step b step) b step.window.span.first step.played.batches step.window.slots.slots

-- the first rounds
abbrev pub rounds_lines : SlotCores → ℕ → ℕ → TraceContent → List Line
rounds_lines cores b k trace = batches_lines cores b 0 (take k (plan_batches trace)) (take (k * b) (schedule b (plan_batches trace)))

-- those of the window that an engine plans next
abbrev pub next_lines : SlotCores → ℕ → TraceContent → EngineState → List Line
next_lines cores b trace engine = window_lines cores b engine.collected (engine_window engine) trace
