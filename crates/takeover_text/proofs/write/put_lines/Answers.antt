use Rattle.std.proofs.Common.{◌≡◌, ◌+◌, ◌++◌, ℕ, List, length, refl, sym, ap, ◌∙◌, arith}
use Rattle.std.proofs.lemmas.List.{append_assoc, length-reverse}
use Rattle.report_text.specs.declared.line.Line.TheVariants as line
use Rattle.takeover_history.specs.declared.event.Event.{Event}
use Rattle.takeover_history.specs.Events.{Log}
use Rattle.text_output.specs.Text.{line_text, text_of}
use Rattle.text_output.proofs.OutputLemmas.{Passes-after, Passes-stopped, Passes-broken, Ends-stopped}
use Rattle.takeover_text.specs.Lines.{takeover_lines, total_lines}
use Rattle.takeover_text.specs.Progress.{log_after, first_events}
use Rattle.takeover_text.proofs.Fronts.{events_all, text_parts}
use Rattle.takeover_text.proofs.write.put_lines.Goals as goal

pub returns-in_err-pair : goal.returns-in_err-pair
returns-in_err-pair g c = Ends-stopped _ (c.texts_follow.ensures.no_memory c.from_residual.ensures.1) c.from_residual.ensures.1

pub returns-in_err-put_events : goal.returns-in_err-put_events
returns-in_err-put_events g c =
    Ends-stopped _ (Passes-stopped _ c.in_err-put_events.ensures.passes c.from_residual-in_err-put_events.ensures.1 (text_parts c.args.script.now)) c.from_residual-in_err-put_events.ensures.1

pub returns-in_err-put_totals : goal.returns-in_err-put_totals
returns-in_err-put_totals g c =
    let script = c.args.script.now in
    let log : Log = log_after script (length script.events) in
    let ended : List ℕ = line_text (line.End (length log + 2)) in
    Ends-stopped _ (Passes-broken _ c.in_ok-put_events.ensures.passes c.in_err-put_totals.ensures c.from_residual-in_err-put_totals.ensures.1
    (text_parts script ∙ sym (append_assoc (text_of (takeover_lines script.pair log)) (text_of (total_lines script.pair log)) ended))) c.from_residual-in_err-put_totals.ensures.1

pub returns : goal.returns
returns g c =
    let script = c.args.script.now in
    let log : Log = log_after script (length script.events) in
    let by : List ℕ = text_of (takeover_lines script.pair log) in
    let totals : List ℕ = text_of (total_lines script.pair log) in
    let rows : length c.events.result.now + 2 ≡ length log + 2 =
    omega (arith, ap (λ (es : List Event). length es) c.events.ensures, (c.running_counts_serve.ensures.few script.pair (first_events script (length script.events))).0, ap (λ (es : List Event). length es) (events_all script), length-reverse script.events) in
    record {
      passes = Passes-after c.in_ok-put_events.ensures.passes (Passes-after c.in_ok-put_totals.ensures c.put_last_line.ensures.passes refl)
          (text_parts script ∙ ap (λ (n : ℕ). by ++ (totals ++ line_text (line.End n))) (sym rows));
      empty = c.put_last_line.ensures.empty;
    }
