-- The trace that a number makes.
use Rattle.std.proofs.Common.{◌≡◌, ℕ, [], ◌∷◌, refl, ap, ◌∙◌}
use Rattle.clos_topology.specs.Network.{Network}
use Rattle.clos_topology.specs.NetSlots.{SlotCores}
use Rattle.report_text.specs.declared.line.Line.{Line}
use Rattle.trace_text.specs.Made.{made_trace}
use Rattle.trace_text.specs.Trace.{TraceContent}
use Rattle.replay_rounds.specs.Setting.{setting_of}
use Rattle.run_text.specs.Made.{made_net, made_rounds, trace_of_number, counts_of_run, sums_of, made_line, made_text}
use Rattle.run_lines.specs.Text.{text_of}
use Rattle.run_text.specs.declared.sums.Sums.{Sums}

pub rounds_are : 400 ≡ made_rounds
unfolding made_rounds
rounds_are = refl

pub trace_is : (number rounds : ℕ) (net : Network) (trace : TraceContent) → net ≡ made_net → rounds ≡ made_rounds → trace ≡ made_trace number net rounds → trace ≡ trace_of_number number
unfolding trace_of_number
trace_is number rounds net trace same all is = is ∙ (ap (λ (n : Network). made_trace number n rounds) same ∙ ap (λ (k : ℕ). made_trace number made_net k) all)

-- the line of its sums
pub text_is : (number b g : ℕ) (cores : SlotCores) (trace : TraceContent) (sums : Sums) (l : Line) → trace ≡ trace_of_number number → sums ≡ sums_of (counts_of_run (setting_of trace b g cores) trace.rounds) → l ≡ made_line number sums
    → text_of (l ∷ []) ≡ made_text number b g cores
text_is number b g cores trace sums l is summed line_is =
    ap (λ (k : Line). text_of (k ∷ [])) line_is
    ∙ (ap (λ (s : Sums). text_of (made_line number s ∷ [])) summed ∙ ap (λ (t : TraceContent). text_of (made_line number (sums_of (counts_of_run (setting_of t b g cores) t.rounds)) ∷ [])) is)
