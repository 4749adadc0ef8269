use Rattle.std.proofs.Common.{◌≡◌, ◌+◌, ◌++◌, [], ℕ, List, Option, get_or, map, refl, sym, ap, ◌∙◌, arith}
use Rattle.std.specs.List.{flat_map}
use Rattle.std.proofs.lemmas.List.{get_or_default}
use Rattle.std.proofs.lemmas.Option.{slice_get-get_or}
use Rattle.greedy_rules.specs.Batches.{DemandBatch}
use Rattle.replay_rounds.specs.declared.played.Departure.{Departure}
use Rattle.window_allocation.specs.declared.window.Span.{Span}
use Rattle.run_lines.specs.Text.{text_of, no_batch, refused_line, sent_line}
use Rattle.text_output.proofs.OutputLemmas.{Passes-after, Passes-stopped}
use Rattle.run_lines.proofs.RoundTexts.{round_text}
use Rattle.run_lines.proofs.rounds.put_round.Goals as goal

pub returns-in_err-put_entries : goal.returns-in_err-put_entries
returns-in_err-put_entries g c =
    let step = c.args.step.now in
    let played = step.played in
    let at : ℕ = c.args.at in
    let round : ℕ = c.collected.result.first + at in
    let round_is : round ≡ step.collected.first + at = ap (λ (s : Span). s.first + at) c.collected.ensures in
    let none : DemandBatch = no_batch in
    let batch : c.index-batches-place.result ≡ get_or played.batches at none =
    c.index-batches-place.is ∙ (ap (λ (bs : List DemandBatch). get_or bs at c.index-batches-place.result) c.batches.ensures ∙ get_or_default played.batches at c.index-batches-place.result none c.requires.at) in
    let answers : List (Option ℕ) = get_or played.answers at [] in
    let departures : List Departure = get_or played.departures at [] in
    Passes-stopped (text_of (flat_map (refused_line round) answers) ++ text_of (map sent_line departures)) c.in_err-put_entries.ensures c.from_residual.ensures.1 (sym (round_text round step.collected.first at played c.index-batches-place.result answers departures round_is batch (slice_get-get_or played.answers at [] (omega (arith, c.requires.at, c.requires.played.answers))) (slice_get-get_or played.departures at [] (omega (arith, c.requires.at, c.requires.played.departures)))))

pub returns-in_err-put_answers : goal.returns-in_err-put_answers
returns-in_err-put_answers g c =
    let step = c.args.step.now in
    let played = step.played in
    let at : ℕ = c.args.at in
    let round : ℕ = c.collected.result.first + at in
    let round_is : round ≡ step.collected.first + at = ap (λ (s : Span). s.first + at) c.collected.ensures in
    let none : DemandBatch = no_batch in
    let batch : c.index-batches-place.result ≡ get_or played.batches at none =
    c.index-batches-place.is ∙ (ap (λ (bs : List DemandBatch). get_or bs at c.index-batches-place.result) c.batches.ensures ∙ get_or_default played.batches at c.index-batches-place.result none c.requires.at) in
    let answers : List (Option ℕ) = c.answers.result.now in
    let departures : List Departure = get_or played.departures at [] in
    Passes-after c.in_ok-put_entries.ensures (Passes-stopped (text_of (map sent_line departures)) c.in_err-put_answers.ensures c.from_residual-in_err-put_answers.ensures.1 refl) (sym (round_text round step.collected.first at played c.index-batches-place.result answers departures round_is batch c.answers.ensures (slice_get-get_or played.departures at [] (omega (arith, c.requires.at, c.requires.played.departures)))))

pub returns : goal.returns
returns g c =
    let step = c.args.step.now in
    let played = step.played in
    let at : ℕ = c.args.at in
    let round : ℕ = c.collected.result.first + at in
    let round_is : round ≡ step.collected.first + at = ap (λ (s : Span). s.first + at) c.collected.ensures in
    let none : DemandBatch = no_batch in
    let batch : c.index-batches-place.result ≡ get_or played.batches at none =
    c.index-batches-place.is ∙ (ap (λ (bs : List DemandBatch). get_or bs at c.index-batches-place.result) c.batches.ensures ∙ get_or_default played.batches at c.index-batches-place.result none c.requires.at) in
    let answers : List (Option ℕ) = c.answers.result.now in
    let departures : List Departure = c.departures.result.now in
    Passes-after c.in_ok-put_entries.ensures (Passes-after c.in_ok-put_answers.ensures c.put_departures.ensures refl) (sym (round_text round step.collected.first at played c.index-batches-place.result answers departures round_is batch c.answers.ensures c.departures.ensures))
