-- The text of `make` (this project's own profile): one line with the sums of the counts of a made trace's replay. It is made of the
-- number, the batch size and the window; the cores are named for the run alone, and the sums are the same for all.
use Rattle.std.specs.Prelude.{◌≡◌, ℕ, ◌+◌, List, [], ◌∷◌, length, sum_by}
use Rattle.std.specs.List.{flat_map, filter_map, range_with_len}
use Rattle.clos_topology.specs.Network.{Network}
use Rattle.clos_topology.specs.NetSlots.{SlotCores}
use Rattle.report_text.specs.declared.line.Line.{Line}
use Rattle.report_text.specs.declared.line.Line.TheVariants as line
use Rattle.trace_text.specs.Made.{made_trace}
use Rattle.trace_text.specs.Trace.{TraceContent}
use Rattle.trace_run.specs.Run.{Setting}
use Rattle.replay_rounds.specs.Setting.{setting_of}
use Rattle.window_engine.specs.declared.counts.Counts.{Counts}
use Rattle.window_engine.specs.Replay.{replay_counts}
use Rattle.run_lines.specs.Text.{text_of, in_flight_of}
use Rattle.run_text.specs.declared.sums.Sums.{Sums}

-- ---- the trace

-- 8 racks of 16 hosts with 16 cores, and 400 rounds
abbrev pub made_net : Network
made_net = record { racks = 8; hosts = 16; cores = 16 }

unfoldable pub made_rounds : ℕ
made_rounds = 400

unfoldable pub trace_of_number : ℕ → TraceContent
trace_of_number number = made_trace number made_net made_rounds

-- its run
abbrev pub made_run : ℕ → ℕ → ℕ → SlotCores → Setting
made_run number b g cores = setting_of (trace_of_number number) b g cores

-- ---- the sums

-- the counts of the flows from a source, to the first so many destinations, that some batch has
abbrev pub counts_to : Setting → ℕ → ℕ → ℕ → List Counts
counts_to setting rounds src count = filter_map (λ dst. replay_counts setting rounds (record { src = src; dst = dst })) (range_with_len 0 count)

abbrev pub counts_from : Setting → ℕ → ℕ → List Counts
counts_from setting rounds src = counts_to setting rounds src setting.endpoints

-- those of all flows, by source and then destination
abbrev pub counts_of_run : Setting → ℕ → List Counts
counts_of_run setting rounds = flat_map (counts_from setting rounds) (range_with_len 0 setting.endpoints)

-- how many counts there are, and their sums
abbrev pub sums_of : List Counts → Sums
sums_of counts = record {
  flows = length counts;
  demanded = sum_by (λ c. c.demanded) counts;
  acknowledged = sum_by (λ c. c.acknowledged) counts;
  flight = sum_by in_flight_of counts;
  pending = sum_by (λ c. c.pending) counts;
  lost = sum_by (λ c. c.lost) counts;
  sent = sum_by (λ c. c.sent) counts;
  missed = sum_by (λ c. c.missed) counts;
}

abbrev pub made_sums : ℕ → ℕ → ℕ → SlotCores → Sums
made_sums number b g cores = sums_of (counts_of_run (made_run number b g cores) (trace_of_number number).rounds)

-- what is demanded is acknowledged, in flight or pending
abbrev pub SumsBalance : Sums → Type 0
SumsBalance sums = sums.demanded ≡ sums.acknowledged + sums.flight + sums.pending

-- ---- the text

abbrev pub made_line : ℕ → Sums → Line
made_line number sums = line.Made number sums.flows sums.demanded sums.acknowledged sums.flight sums.pending sums.lost sums.sent sums.missed

abbrev pub made_text : ℕ → ℕ → ℕ → SlotCores → List ℕ
made_text number b g cores = text_of (made_line number (made_sums number b g cores) ∷ [])
