-- The lines of what a run gives (this project's own profile), and their bytes.
use Rattle.std.specs.Prelude.{ℕ, zero, suc, ◌+◌, ◌-◌, List, [], ◌∷◌, ◌++◌, map, Option, Some, None}
use Rattle.greedy_rules.specs.declared.flows.Flow.{Flow}
use Rattle.greedy_rules.specs.Batches.{DemandBatch}
use Rattle.greedy_rules.specs.Schedule.{first_slot}
use Rattle.clos_topology.specs.Network.{endpoints_of}
use Rattle.clos_topology.specs.NetSlots.{SlotCores}
use Rattle.report_text.specs.declared.line.Line.{Line}
use Rattle.report_text.specs.declared.line.Line.TheVariants as line
pub use Rattle.text_output.specs.Text.{line_text, text_of, entry_line, slot_line, slots_lines}
use Rattle.trace_text.specs.Trace.{TraceContent}
use Rattle.trace_run.specs.Run.{Setting}
use Rattle.replay_rounds.specs.declared.played.Departure.{Departure}
pub use Rattle.window_engine.specs.declared.counts.Counts.{Counts}
use Rattle.window_engine.specs.Batches.{plan_batches}
use Rattle.window_engine.specs.Counts.{counts_of}
use Rattle.window_engine.specs.Replay.{replay_counts}

-- ---- batches and slots

-- what stands for a batch past the last
abbrev pub no_batch : DemandBatch
no_batch = record { entries = []; limits = record { hosts = 0; cores = 0 } }

-- a batch with its slots
abbrev pub batch_lines : SlotCores → ℕ → ℕ → DemandBatch → List (List Flow) → List Line
batch_lines cores b k batch slots = map (entry_line k) batch.entries ++ slots_lines cores (first_slot b k) slots

-- ---- rounds

abbrev pub refused_line : ℕ → Option ℕ → List Line
refused_line round None = []
refused_line round (Some number) = line.Refused round number ∷ []

abbrev pub sent_line : Departure → Line
sent_line departure = line.Sent departure.slot departure.src departure.dst

-- ---- flows

-- what is made of each flow of a source, from a destination on, and of each source, from one on
abbrev pub each_destination : (Flow → List Line) → ℕ → ℕ → ℕ → List Line
each_destination lines src dst zero = []
each_destination lines src dst (suc more) = lines (record { src = src; dst = dst }) ++ each_destination lines src (dst + 1) more

abbrev pub each_source : (Flow → List Line) → ℕ → ℕ → ℕ → List Line
each_source lines endpoints src zero = []
each_source lines endpoints src (suc more) = each_destination lines src 0 endpoints ++ each_source lines endpoints (src + 1) more

-- what became of a flow's demand, if it has counts: in a plan, and in a replay
abbrev pub flow_line : Flow → Counts → Line
flow_line flow counts = line.Flow flow.src flow.dst counts.demanded counts.allocated counts.pending

abbrev pub flow_lines_of : Flow → Option Counts → List Line
flow_lines_of flow None = []
flow_lines_of flow (Some counts) = flow_line flow counts ∷ []

abbrev pub flow_lines : ℕ → TraceContent → Flow → List Line
flow_lines b trace flow = flow_lines_of flow (counts_of b (plan_batches trace) flow)

-- of one source's flows, and of all
abbrev pub flows_of_source : ℕ → TraceContent → ℕ → List Line
flows_of_source b trace src = each_destination (flow_lines b trace) src 0 (endpoints_of trace.net)

abbrev pub flows_lines : ℕ → TraceContent → List Line
flows_lines b trace = each_source (flow_lines b trace) (endpoints_of trace.net) 0 (endpoints_of trace.net)

-- the slots of a flow that are allocated and neither acknowledged nor lost
abbrev pub in_flight_of : Counts → ℕ
in_flight_of counts = counts.allocated - counts.acknowledged - counts.lost

abbrev pub count_line : Flow → Counts → Line
count_line flow counts =
    line.Count flow.src flow.dst counts.demanded counts.acknowledged (in_flight_of counts) counts.pending counts.lost counts.sent counts.missed

abbrev pub count_lines_of : Flow → Option Counts → List Line
count_lines_of flow None = []
count_lines_of flow (Some counts) = count_line flow counts ∷ []

abbrev pub count_lines : Setting → TraceContent → Flow → List Line
count_lines setting trace flow = count_lines_of flow (replay_counts setting trace.rounds flow)

abbrev pub counts_of_source : Setting → TraceContent → ℕ → List Line
counts_of_source setting trace src = each_destination (count_lines setting trace) src 0 (endpoints_of trace.net)

abbrev pub counts_lines : Setting → TraceContent → List Line
counts_lines setting trace = each_source (count_lines setting trace) (endpoints_of trace.net) 0 (endpoints_of trace.net)
