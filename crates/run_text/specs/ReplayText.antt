-- The text of a replay (this project's own profile): in each step the rounds of a window and then the slots of the window before, at
-- the end a line a flow, and the end. It is made of the trace, the batch size, the window and the cores alone.
use Rattle.std.specs.Prelude.{ℕ, suc, ◌+◌, ◌-◌, ◌/◌, List, [], ◌∷◌, ◌++◌, map}
use Rattle.std.specs.List.{flat_map, range_with_len}
use Rattle.greedy_rules.specs.Schedule.{first_slot}
use Rattle.clos_topology.specs.NetSlots.{SlotCores}
use Rattle.report_text.specs.declared.line.Line.{Line}
use Rattle.report_text.specs.declared.line.Line.TheVariants as line
use Rattle.trace_text.specs.Trace.{TraceContent}
use Rattle.trace_run.specs.Run.{Setting}
use Rattle.trace_run.specs.Windows.{batch_at, collected_after}
use Rattle.replay_rounds.specs.Setting.{setting_of}
use Rattle.replay_rounds.specs.Played.{raw_answers, departures_in}
use Rattle.replay_rounds.specs.Standing.{slots_between}
use Rattle.run_lines.specs.Text.{entry_line, slots_lines, refused_line, sent_line, counts_lines, text_of}

-- ---- rounds

-- the batch of a round, its raw packets that are refused, and what is sent in it
abbrev pub round_lines : Setting → TraceContent → ℕ → List Line
round_lines setting trace round =
    (map (entry_line round) (batch_at setting round).entries ++ flat_map (refused_line round) (raw_answers setting trace round))
    ++ map sent_line (departures_in setting round)

abbrev pub replay_rounds_lines : Setting → TraceContent → ℕ → ℕ → List Line
replay_rounds_lines setting trace first count = flat_map (round_lines setting trace) (range_with_len first count)

-- ---- steps

-- the slots of the batches from this one on, of so many rounds
abbrev pub replay_window_lines : SlotCores → Setting → ℕ → ℕ → List Line
replay_window_lines cores setting first rounds = slots_lines cores (first_slot setting.b first) (slots_between setting first rounds)

-- step j gives the rounds of window j, and the slots of window j - 1
abbrev pub step_lines : SlotCores → Setting → TraceContent → ℕ → List Line
step_lines cores setting trace j =
    replay_rounds_lines setting trace (collected_after setting.g trace.rounds j) (collected_after setting.g trace.rounds (suc j) - collected_after setting.g trace.rounds j)
    ++ replay_window_lines cores setting (collected_after setting.g trace.rounds (j - 1)) (collected_after setting.g trace.rounds j)

-- the first so many steps
abbrev pub steps_lines : SlotCores → Setting → TraceContent → ℕ → List Line
steps_lines cores setting trace steps = flat_map (step_lines cores setting trace) (range_with_len 0 steps)

-- as many as there are windows, and one more
abbrev pub steps_of : Setting → TraceContent → ℕ
steps_of setting trace = (trace.rounds + setting.g - 1) / setting.g + 1

-- ---- the whole

abbrev pub all_steps_lines : SlotCores → Setting → TraceContent → List Line
all_steps_lines cores setting trace = steps_lines cores setting trace (steps_of setting trace)

abbrev pub replay_lines : SlotCores → Setting → TraceContent → List Line
replay_lines cores setting trace = (all_steps_lines cores setting trace ++ counts_lines setting trace) ++ line.End trace.rounds ∷ []

abbrev pub replay_text : SlotCores → ℕ → ℕ → TraceContent → List ℕ
replay_text cores b g trace = text_of (replay_lines cores (setting_of trace b g cores) trace)
