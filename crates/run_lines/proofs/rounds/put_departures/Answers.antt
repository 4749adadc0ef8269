use Rattle.std.proofs.Common.{◌<◌, ◌++◌, ◌+◌, List, ℕ, length, map, drop, ap, ◌∙◌, arith}
use Rattle.std.proofs.lemmas.Option.{slice_get-get_or}
use Rattle.run_lines.specs.Text.{text_of, sent_line}
use Rattle.text_output.proofs.OutputLemmas.{Passes-after, Passes-broken}
use Rattle.text_output.proofs.TextLemmas.{text_more, text_rest}
use Rattle.run_lines.proofs.rounds.put_departures.Goals as goal

pub loop-at-preserved : goal.loop-at-preserved
loop-at-preserved g c =
    let departures = c.args.departures.now in
    let at : ℕ = c.loop-at.at in
    let below : at < length departures = omega arith in
    let more = text_more sent_line departures at _ below (slice_get-get_or departures at _ below) in
    Passes-after c.loop-at.invariant c.in_ok-put_departure.ensures more

pub returns-in_err-put_departure : goal.returns-in_err-put_departure
returns-in_err-put_departure g c =
    let departures = c.args.departures.now in
    let at : ℕ = c.loop-at.at in
    let below : at < length departures = omega arith in
    let more = text_more sent_line departures at _ below (slice_get-get_or departures at _ below) in
    let whole = text_rest sent_line departures (at + 1) ∙ ap (λ (t : List ℕ). t ++ text_of (map sent_line (drop (at + 1) departures))) more in
    Passes-broken _ c.loop-at.invariant c.in_err-put_departure.ensures c.from_residual.ensures.1 whole
