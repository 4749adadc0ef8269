-- The text of packets that are received (this project's own profile): for each endpoint what its lane answers to its packets, in the
-- order in which they are put, then what all lanes record of them in round 0, and the end. It is made of the packets alone: neither
-- the threads that put them nor the passes of the desk are in it.
use Rattle.std.specs.Prelude.{ℕ, List, [], ◌∷◌, ◌++◌, map, length, slice_index}
use Rattle.std.specs.List.{flat_map, range_with_len}
use Rattle.greedy_rules.specs.declared.flows.Entry.{Entry}
use Rattle.clos_topology.specs.Network.{endpoints_of}
use Rattle.trace_text.specs.Trace.{TraceContent, puts_at}
use Rattle.front_desk.specs.Answers.{answers_of, entries_of}
use Rattle.report_text.specs.declared.line.Line.{Line}
use Rattle.report_text.specs.declared.line.Line.TheVariants as line
use Rattle.text_output.specs.Text.{entry_line, text_of}

-- the endpoints of a trace, rising
abbrev pub endpoints_in : TraceContent → List ℕ
endpoints_in trace = range_with_len 0 (endpoints_of trace.net)

-- ---- answers

-- what the lane of an endpoint answers to its packets, and a line for each of them, by its place
abbrev pub answers_to : TraceContent → ℕ → List ℕ
answers_to trace endpoint = answers_of endpoint (endpoints_of trace.net) (puts_at trace endpoint)

abbrev pub answer_line : ℕ → List ℕ → ℕ → Line
answer_line endpoint answers place = line.Answer endpoint place (slice_index answers place)

abbrev pub answer_lines : TraceContent → ℕ → List Line
answer_lines trace endpoint = map (answer_line endpoint (answers_to trace endpoint)) (range_with_len 0 (length (answers_to trace endpoint)))

-- ---- what is recorded

-- the rounds of a window. How many they are shows in nothing that is recorded in round 0: the law stands in front_desk
abbrev pub window_rounds : ℕ
window_rounds = 8

abbrev pub recorded_of : TraceContent → ℕ → List Entry
recorded_of trace endpoint = entries_of endpoint (endpoints_of trace.net) window_rounds (puts_at trace endpoint)

abbrev pub recorded_in : TraceContent → List Entry
recorded_in trace = flat_map (recorded_of trace) (endpoints_in trace)

-- ---- the whole

abbrev pub receive_lines : TraceContent → List Line
receive_lines trace = (flat_map (answer_lines trace) (endpoints_in trace) ++ map (entry_line 0) (recorded_in trace)) ++ line.End 1 ∷ []

abbrev pub receive_text : TraceContent → List ℕ
receive_text trace = text_of (receive_lines trace)
