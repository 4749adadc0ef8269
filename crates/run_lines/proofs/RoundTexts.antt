-- The text of a round that was played, in its three parts.
use Rattle.std.proofs.Common.{◌≡◌, ◌+◌, ℕ, List, [], ◌++◌, get_or, map, Option, Some, slice_get, sym, ap, ◌∙◌}
use Rattle.std.specs.List.{flat_map}
use Rattle.std.proofs.lemmas.List.{append_assoc}
use Rattle.std.proofs.lemmas.List.Concat.{flat_map-append}
use Rattle.std.proofs.lemmas.Option.{get_or_from_slice_get}
use Rattle.greedy_rules.specs.Batches.{DemandBatch}
use Rattle.report_text.specs.declared.line.Line.{Line}
use Rattle.replay_rounds.specs.declared.played.Departure.{Departure}
use Rattle.replay_rounds.specs.Played.{Played}
use Rattle.run_lines.specs.Text.{line_text, text_of, no_batch, entry_line, refused_line, sent_line}
use Rattle.run_lines.specs.Steps.{played_round}

three_parts : (xs ys zs : List Line) → text_of xs ++ (text_of ys ++ text_of zs) ≡ text_of ((xs ++ ys) ++ zs)
three_parts xs ys zs =
    sym (append_assoc (text_of xs) (text_of ys) (text_of zs)) ∙ (ap (λ (t : List ℕ). t ++ text_of zs) (sym (flat_map-append line_text xs ys)) ∙ sym (flat_map-append line_text (xs ++ ys) zs))

pub round_text : (round first at : ℕ) (played : Played) (batch : DemandBatch) (answers : List (Option ℕ)) (departures : List Departure)
    → round ≡ first + at → batch ≡ get_or played.batches at no_batch → slice_get played.answers at ≡ Some answers → slice_get played.departures at ≡ Some departures
    → text_of (map (entry_line round) batch.entries) ++ (text_of (flat_map (refused_line round) answers) ++ text_of (map sent_line departures)) ≡ text_of (played_round first played at)
round_text round first at played batch answers departures round_is batch_is answers_are departures_are =
    let entries : List Line = map (entry_line (first + at)) batch.entries in
    ap (λ (n : ℕ). text_of (map (entry_line n) batch.entries) ++ (text_of (flat_map (refused_line n) answers) ++ text_of (map sent_line departures))) round_is
    ∙ (three_parts entries (flat_map (refused_line (first + at)) answers) (map sent_line departures)
    ∙ (ap (λ (b : DemandBatch). text_of ((map (entry_line (first + at)) b.entries ++ flat_map (refused_line (first + at)) answers) ++ map sent_line departures)) batch_is
    ∙ (ap (λ (a : List (Option ℕ)). text_of ((map (entry_line (first + at)) (get_or played.batches at no_batch).entries ++ flat_map (refused_line (first + at)) a) ++ map sent_line departures))
    (sym (get_or_from_slice_get played.answers at answers [] answers_are))
    ∙ ap (λ (ds : List Departure). text_of ((map (entry_line (first + at)) (get_or played.batches at no_batch).entries ++ flat_map (refused_line (first + at)) (get_or played.answers at [])) ++ map sent_line ds))
    (sym (get_or_from_slice_get played.departures at departures [] departures_are)))))
