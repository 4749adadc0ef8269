-- The text of a plan where lists are sorted by a key (this project's own profile): for each batch its entries and its slots, then a
-- line a flow, then the end. It is made of the trace, the batch size and the cores alone.
use Rattle.std.specs.Prelude.{◌≡◌, ℕ, List, [], ◌∷◌, ◌++◌}
use Rattle.greedy_rules.specs.declared.flows.Flow.{Flow}
use Rattle.greedy_rules.specs.Demands.{Key}
use Rattle.greedy_rules.specs.Schedule.{schedule_by}
use Rattle.greedy_rules.specs.Examples.{remaining}
use Rattle.clos_topology.specs.Network.{endpoints_of}
use Rattle.clos_topology.specs.NetSlots.{SlotCores}
use Rattle.report_text.specs.declared.line.Line.{Line}
use Rattle.report_text.specs.declared.line.Line.TheVariants as line
use Rattle.trace_text.specs.Trace.{TraceContent}
use Rattle.plan_rounds.specs.Batches.{plan_batches}
use Rattle.run_lines.specs.Text.{each_source, flow_lines_of, text_of}
use Rattle.run_text.specs.PlanText.{batches_lines, plan_text}
use Rattle.fewest_plan.specs.Counts.{counts_of_by}

-- what became of a flow's demand, and of all flows'
abbrev pub flow_lines_by : Key → ℕ → TraceContent → Flow → List Line
flow_lines_by key b trace flow = flow_lines_of flow (counts_of_by key b (plan_batches trace) flow)

abbrev pub flows_lines_by : Key → ℕ → TraceContent → List Line
flows_lines_by key b trace = each_source (flow_lines_by key b trace) (endpoints_of trace.net) 0 (endpoints_of trace.net)

-- the lines, in order
abbrev pub lines_by : Key → SlotCores → ℕ → TraceContent → List Line
lines_by key cores b trace =
    (batches_lines cores b 0 (plan_batches trace) (schedule_by key b (plan_batches trace)) ++ flows_lines_by key b trace) ++ line.End trace.rounds ∷ []

abbrev pub text_by : Key → SlotCores → ℕ → TraceContent → List ℕ
text_by key cores b trace = text_of (lines_by key cores b trace)

-- by need: the flow that needs the fewest slots goes first
abbrev pub fewest_lines : SlotCores → ℕ → TraceContent → List Line
fewest_lines cores b trace = lines_by remaining cores b trace

abbrev pub fewest_text : SlotCores → ℕ → TraceContent → List ℕ
fewest_text cores b trace = text_by remaining cores b trace

-- by the slot in which a flow was last served it is the text of `plan` as it stands
abbrev pub IsThePlainText : Key → Type 0
IsThePlainText key = (cores : SlotCores) (b : ℕ) (trace : TraceContent) → text_by key cores b trace ≡ plan_text cores b trace
