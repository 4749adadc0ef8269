-- What is collected of one line more.
use Rattle.std.proofs.Common.{◌≡◌, ◌+◌, ℕ, List, [], ◌∷◌, ◌++◌, Option, Some, None, refl, sym, ap, ◌∙◌, arith, append_assoc}
use Rattle.std.specs.Prelude.{option_map, unwrap_or}
use Rattle.std.specs.List.{cons_option}
use Rattle.std.proofs.lemmas.List.{append-nil}
use Rattle.report_text.specs.declared.line.Line.{Line}
use Rattle.schedule_audit.specs.declared.collected.Collected.{Collected}
use Rattle.schedule_audit.specs.Lines.{recorded_by, records, path_of, sent_by_line, rounds_by, ends, first_or_0}
use Rattle.schedule_audit.specs.Totals.{total_in_line}
use Rattle.schedule_audit.specs.Numbered.{Numbered, at_line, numbered_lines}
use Rattle.schedule_audit.specs.Collecting.{first_number, AddsLine, CollectsUpTo, Collects}

option-front : {X : Type 0} (o : Option X) (xs : List X) → cons_option o xs ≡ cons_option o [] ++ xs
option-front None xs = refl
option-front (Some x) xs = refl

-- a list that goes on with one line more
joined : {X : Type 0} (all front mid rest new : List X) → all ≡ front ++ (mid ++ rest) → new ≡ front ++ mid → all ≡ new ++ rest
joined all front mid rest new is more = is ∙ (sym (append_assoc front mid rest) ∙ ap (λ xs. xs ++ rest) (sym more))

numbered-more : {X : Type 0} (says : Option Line → Option X) (number : ℕ) (l : Option Line) (after : List (Option Line)) → numbered_lines says number (l ∷ after) ≡ numbered_lines says number (l ∷ []) ++ numbered_lines says (number + 1) after
numbered-more says number l after = option-front (option_map (at_line number) (says l)) (numbered_lines says (number + 1) after)

numbered-step : {X : Type 0} (says : Option Line → Option X) (all front new : List (Numbered X)) (number next : ℕ) (l : Option Line) (after : List (Option Line)) → next ≡ number + 1
    → all ≡ front ++ numbered_lines says (number + 1) (l ∷ after) → new ≡ front ++ numbered_lines says next (l ∷ []) → all ≡ new ++ numbered_lines says (next + 1) after
numbered-step says all front new number next l after is so more =
    joined all front (numbered_lines says next (l ∷ [])) (numbered_lines says (next + 1) after) new
    (so ∙ (ap (λ n. front ++ numbered_lines says n (l ∷ after)) (sym is) ∙ ap (λ xs. front ++ xs) (numbered-more says next l after))) more

rounds-step : (old next : Option ℕ) (ns : List ℕ) → first_or_0 (cons_option old (cons_option next ns)) ≡ first_or_0 (cons_option (first_number old next) ns)
rounds-step None next ns = refl
rounds-step (Some n) next ns = refl

pub collects-more : (lines after : List (Option Line)) (l : Option Line) (old new : Collected) → CollectsUpTo lines (l ∷ after) old → AddsLine l old new → CollectsUpTo lines after new
collects-more lines after l old new so adds = record {
  records = joined (records lines) old.records.items (cons_option (recorded_by l) []) (records after) new.records.items (so.records ∙ ap (λ xs. old.records.items ++ xs) (option-front (recorded_by l) (records after))) adds.records;
  paths = numbered-step path_of (numbered_lines path_of 1 lines) old.paths.items new.paths.items old.lines new.lines l after adds.lines so.paths adds.paths;
  sends = numbered-step sent_by_line (numbered_lines sent_by_line 1 lines) old.sends.items new.sends.items old.lines new.lines l after adds.lines so.sends adds.sends;
  totals = numbered-step total_in_line (numbered_lines total_in_line 1 lines) old.totals.items new.totals.items old.lines new.lines l after adds.lines so.totals adds.totals;
  rounds = so.rounds ∙ (rounds-step old.rounds (rounds_by l) (ends after) ∙ ap (λ o. first_or_0 (cons_option o (ends after))) (sym adds.rounds));
  count = omega (arith, so.count, adds.lines);
}

option-first : (o : Option ℕ) → first_or_0 (cons_option o []) ≡ unwrap_or o 0
option-first None = refl
option-first (Some n) = refl

pub collects-all : (lines : List (Option Line)) (new : Collected) → CollectsUpTo lines [] new → Collects lines new
collects-all lines new so = record {
  records = sym (so.records ∙ append-nil new.records.items);
  paths = sym (so.paths ∙ append-nil new.paths.items);
  sends = sym (so.sends ∙ append-nil new.sends.items);
  totals = sym (so.totals ∙ append-nil new.totals.items);
  rounds = sym (so.rounds ∙ option-first new.rounds);
  count = omega (arith, so.count);
}
