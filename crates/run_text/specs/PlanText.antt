-- The text of a plan (this project's own profile): for each batch its entries and its slots, then a line a flow, then the
-- end. It is made of the trace, the batch size and the cores alone.
use Rattle.std.specs.Prelude.{ℕ, ◌+◌, List, [], ◌∷◌, ◌++◌, take, drop}
use Rattle.greedy_rules.specs.declared.flows.Flow.{Flow}
use Rattle.greedy_rules.specs.Batches.{DemandBatch}
use Rattle.greedy_rules.specs.Schedule.{schedule}
use Rattle.clos_topology.specs.NetSlots.{SlotCores}
use Rattle.report_text.specs.declared.line.Line.{Line}
use Rattle.report_text.specs.declared.line.Line.TheVariants as line
use Rattle.trace_text.specs.Trace.{TraceContent}
use Rattle.window_engine.specs.Batches.{plan_batches}
use Rattle.run_lines.specs.Text.{batch_lines, flows_lines, text_of}

-- the batches from batch k on, each with the next b slots
abbrev pub batches_lines : SlotCores → ℕ → ℕ → List DemandBatch → List (List Flow) → List Line
batches_lines cores b k [] slots = []
batches_lines cores b k (batch ∷ batches) slots = batch_lines cores b k batch (take b slots) ++ batches_lines cores b (k + 1) batches (drop b slots)

-- the lines of a plan, in order
abbrev pub plan_lines : SlotCores → ℕ → TraceContent → List Line
plan_lines cores b trace =
    (batches_lines cores b 0 (plan_batches trace) (schedule b (plan_batches trace)) ++ flows_lines b trace) ++ line.End trace.rounds ∷ []

abbrev pub plan_text : SlotCores → ℕ → TraceContent → List ℕ
plan_text cores b trace = text_of (plan_lines cores b trace)
