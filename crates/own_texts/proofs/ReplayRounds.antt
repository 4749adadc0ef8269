-- The rounds of a replay record its batches, and show what is sent in them.
use Rattle.std.proofs.Common.{◌≡◌, ◌<◌, ◌≤◌, ◌+◌, ℕ, zero, suc, List, [], ◌∷◌, ◌++◌, map, length, Option, Some, None, All, refl, sym, ap, ◌∙◌, arith}
use Rattle.std.specs.Prelude.{IfSome}
use Rattle.std.specs.List.{flat_map, range_with_len}
use Rattle.std.proofs.lemmas.List.{append_assoc, append-nil}
use Rattle.std.proofs.lemmas.List.Elements.{All-head, All-tail}
use Rattle.greedy_rules.specs.declared.flows.Entry.{Entry}
use Rattle.greedy_rules.specs.Batches.{DemandBatch}
use Rattle.report_text.specs.declared.line.Line.{Line}
use Rattle.report_text.specs.Names.{IsRefusal}
use Rattle.schedule_audit.specs.declared.recorded.Recorded.{Recorded}
use Rattle.schedule_audit.specs.declared.packets.Place.{Place}
use Rattle.schedule_audit.specs.Wrong.{Expected}
use Rattle.schedule_audit.specs.Texts.{record_of, records_of}
use Rattle.trace_text.specs.Trace.{TraceContent}
use Rattle.trace_run.specs.Run.{Setting, replayed}
use Rattle.trace_run.specs.Windows.{batch_at}
use Rattle.replay_rounds.specs.declared.played.Departure.{Departure}
use Rattle.replay_rounds.specs.Played.{raw_answers, departures_in, EveryRefusalHasANumber}
use Rattle.run_lines.specs.Text.{entry_line, refused_line, sent_line}
use Rattle.run_text.specs.ReplayText.{round_lines, replay_rounds_lines}
use Rattle.own_texts.proofs.Shows.{Shows, shows-nil, shows-append, shows-as, shows-entries}

-- ---- the lines of a round

abbrev pub place_of : Departure → Place
place_of d = record { slot = d.slot; flow = record { src = d.src; dst = d.dst } }

abbrev pub places_in : Setting → ℕ → List Place
places_in setting round = map place_of (departures_in setting round)

refusals_show : (b : ℕ) (e : Expected) (round : ℕ) (answers : List (Option ℕ)) → round ≤ 100000 → All (λ answer. IfSome answer IsRefusal) answers → Shows b e (flat_map (refused_line round) answers) [] [] []
refusals_show b e round [] low named = shows-nil b e
refusals_show b e round (None ∷ answers) low named = refusals_show b e round answers low (All-tail (λ (o : Option ℕ). IfSome o IsRefusal) None answers named)
refusals_show b e round (Some number ∷ answers) low named =
    let P : Option ℕ → Type 0 = λ o. IfSome o IsRefusal in
    let more = refusals_show b e round answers low (All-tail P (Some number) answers named) in
    record {
      inner = (tt, more.inner);
      good = (tt, more.good);
      figures = (((omega arith, tt), All-head P (Some number) answers named), more.figures);
      recorded = more.recorded;
      routed = more.routed;
      sent = more.sent;
    }

sends_show : (b : ℕ) (e : Expected) (ds : List Departure) → Shows b e (map sent_line ds) [] [] (map place_of ds)
sends_show b e [] = shows-nil b e
sends_show b e (d ∷ ds) =
    let more = sends_show b e ds in
    record { inner = (tt, more.inner); good = (tt, more.good); figures = (tt, more.figures); recorded = more.recorded; routed = more.routed; sent = ap (λ xs. place_of d ∷ xs) more.sent }

round_shows : EveryRefusalHasANumber → (b : ℕ) (e : Expected) (setting : Setting) (trace : TraceContent) (round : ℕ) → round ≤ 100000
    → Shows b e (round_lines setting trace round) (map (record_of round) (batch_at setting round).entries) [] (places_in setting round)
round_shows named b e setting trace round low =
    let entries : List Recorded = map (record_of round) (batch_at setting round).entries in
    shows-as
    (shows-append (shows-append (shows-entries b e round (batch_at setting round).entries) (refusals_show b e round (raw_answers setting trace round) low (named setting trace round))) (sends_show b e (departures_in setting round)))
    (append-nil (entries ++ []) ∙ append-nil entries) refl refl

-- ---- of some rounds

-- the batches that they record, and what is sent in them
abbrev pub batches_from : Setting → ℕ → ℕ → List DemandBatch
batches_from setting first count = map (batch_at setting) (range_with_len first count)

abbrev pub sent_from : Setting → ℕ → ℕ → List Place
sent_from setting first count = flat_map (places_in setting) (range_with_len first count)

pub rounds_show : EveryRefusalHasANumber → (b : ℕ) (e : Expected) (setting : Setting) (trace : TraceContent) (first count : ℕ) → first + count ≤ 100000
    → Shows b e (replay_rounds_lines setting trace first count) (records_of first (batches_from setting first count)) [] (sent_from setting first count)
rounds_show named b e setting trace first zero low = shows-nil b e
rounds_show named b e setting trace first (suc count) low =
    shows-append (round_shows named b e setting trace first (omega arith)) (rounds_show named b e setting trace (first + 1) count (omega arith))

-- a longer run has these batches more
pub batches_grow : (setting : Setting) (first count : ℕ) → (replayed setting (first + count)).batches ≡ (replayed setting first).batches ++ batches_from setting first count
batches_grow setting first zero =
    let same : first + 0 ≡ first = omega arith in
    ap (λ (n : ℕ). (replayed setting n).batches) same ∙ sym (append-nil (replayed setting first).batches)
batches_grow setting first (suc count) =
    let on : first + suc count ≡ suc first + count = omega arith in
    let next : suc first ≡ first + 1 = omega arith in
    ap (λ (n : ℕ). (replayed setting n).batches) on
    ∙ (batches_grow setting (suc first) count
    ∙ (append_assoc (replayed setting first).batches (batch_at setting first ∷ []) (batches_from setting (suc first) count)
    ∙ ap (λ (n : ℕ). (replayed setting first).batches ++ batch_at setting first ∷ batches_from setting n count) next))
