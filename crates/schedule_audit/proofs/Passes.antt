-- A pass over the lines of a text.
use Rattle.std.proofs.Common.{◌≡◌, ◌+◌, nat_le, ◌||◌, ℕ, List, [], ◌∷◌, length, cond, Bool, true, false, Option, Some, None, refl, sym, ap, ◌∙◌, subst, arith}
use Rattle.std.specs.List.{cons_option}
use Rattle.std.proofs.lemmas.Bool.{cond-true, cond-false}
use Rattle.std.proofs.Math.Bool.{or-false}
use Rattle.report_text.specs.declared.line.Line.{Line}
use Rattle.schedule_audit.specs.Reading.{ReadsLines, ReadsLine}
use Rattle.schedule_audit.specs.Lines.{Recorded, recorded_by, rounds_by, records, ends, reaches}
use Rattle.schedule_audit.specs.Misplaced.{is_any, has_end, cannot_stand, is_misplaced}
use Rattle.schedule_audit.specs.BadLines.{first_from, or_else, after_last, first_misplaced}
use Rattle.schedule_audit.specs.Standing.{Sums, SumsStand}
use Rattle.schedule_audit.proofs.FirstLines.{comes_first, empty_text}

-- ---- one line and the others

reaches-option : (batch : ℕ) (o : Option Recorded) (rs : List Recorded) → reaches batch (cons_option o rs) ≡ (reaches batch (cons_option o []) || reaches batch rs)
reaches-option batch None rs = refl
reaches-option batch (Some r) rs = more (nat_le batch r.batch) (reaches batch rs)
  where
    more : (a b : Bool) → (a || b) ≡ ((a || false) || b)
    more true b = refl
    more false b = refl

pub reaches-more : (batch : ℕ) (line : Option Line) (after : List (Option Line)) → reaches batch (records (line ∷ after)) ≡ (reaches batch (records (line ∷ [])) || reaches batch (records after))
reaches-more batch line after = reaches-option batch (recorded_by line) (records after)

end-option : (o : Option ℕ) (ns : List ℕ) → is_any (cons_option o ns) ≡ (is_any (cons_option o []) || is_any ns)
end-option None ns = refl
end-option (Some n) ns = refl

end-more : (line : Option Line) (after : List (Option Line)) → has_end (line ∷ after) ≡ (has_end (line ∷ []) || has_end after)
end-more line after = end-option (rounds_by line) (ends after)

swap : (a b c : Bool) → (a || (b || c)) ≡ ((b || a) || c)
swap true true c = refl
swap true false c = refl
swap false true c = refl
swap false false c = refl

misplaced-is : (endpoints : ℕ) (whole before : List (Option Line)) (line : Option Line) → is_misplaced endpoints whole before line ≡ (has_end before || cannot_stand endpoints whole before line)
misplaced-is endpoints whole before (Some l) = refl
misplaced-is endpoints whole before None = either (has_end before)
  where
    either : (b : Bool) → true ≡ (b || true)
    either true = refl
    either false = refl

-- ---- where the pass stands: these lines are behind it, the latest first, and these before it

pub record Reached (endpoints : ℕ) (lines : List (Option Line)) (rest : List ℕ) (number : ℕ) (ended : Bool) (last : Option Recorded) (sums : Sums) : Type 0 where
  pub before : List (Option Line)
  pub after : List (Option Line)
  pub are : ReadsLines rest after
  pub same : first_from (is_misplaced endpoints lines) 1 [] lines ≡ first_from (is_misplaced endpoints lines) number before after
  pub stands : SumsStand last sums (records before)
  pub ended_is : ended ≡ has_end before
  pub has : has_end lines ≡ (has_end before || has_end after)
  pub count : number + length after ≡ length lines + 1

unfoldable pub at_first : (endpoints : ℕ) (lines : List (Option Line)) (text : List ℕ) (last : Option Recorded) (sums : Sums) → ReadsLines text lines → SumsStand last sums [] → Reached endpoints lines text 1 false last sums
at_first endpoints lines text last sums are stands = record { before = []; after = lines; are = are; same = refl; stands = stands; ended_is = refl; has = refl; count = omega arith }

module _ (endpoints : ℕ) (lines : List (Option Line)) (rest later : List ℕ) (number : ℕ) (ended : Bool) (last : Option Recorded) (sums : Sums) (line : Option Line)
    (reached : Reached endpoints lines rest number ended last sums) (begins : ReadsLine rest line later) where
  first : (after : List (Option Line)) × (reached.after ≡ line ∷ after) × ReadsLines later after
  first = comes_first rest later line reached.after begins reached.are

  from : first_from (is_misplaced endpoints lines) 1 [] lines ≡ cond (is_misplaced endpoints lines reached.before line) (Some number) (first_from (is_misplaced endpoints lines) (number + 1) (line ∷ reached.before) first.0)
  from = reached.same ∙ ap (λ xs. first_from (is_misplaced endpoints lines) number reached.before xs) first.1

  pub is_found : is_misplaced endpoints lines reached.before line ≡ true → Some number ≡ first_misplaced endpoints lines
  is_found bad =
      let found = from ∙ cond-true (is_misplaced endpoints lines reached.before line) (Some number) (first_from (is_misplaced endpoints lines) (number + 1) (line ∷ reached.before) first.0) bad in
      sym (ap (λ o. or_else o (after_last lines)) found)

  pub found_after_end : ended ≡ true → Some number ≡ first_misplaced endpoints lines
  found_after_end end = is_found (misplaced-is endpoints lines reached.before line ∙ ap (λ b. b || cannot_stand endpoints lines reached.before line) (sym reached.ended_is ∙ end))

  pub found_here : ended ≡ false → cannot_stand endpoints lines reached.before line ≡ true → Some number ≡ first_misplaced endpoints lines
  found_here going bad =
      is_found (misplaced-is endpoints lines reached.before line ∙ (ap (λ b. b || cannot_stand endpoints lines reached.before line) (sym reached.ended_is ∙ going) ∙ bad))

  pub one_more : (next : ℕ) (new_last : Option Recorded) (new : Sums) → next ≡ number + 1 → ended ≡ false → cannot_stand endpoints lines reached.before line ≡ false → SumsStand new_last new (records (line ∷ reached.before))
      → (more : Reached endpoints lines later next (has_end (line ∷ [])) new_last new) × (reached.after ≡ line ∷ more.after)
  one_more next new_last new is going good stands =
      let fine : is_misplaced endpoints lines reached.before line ≡ false =
      misplaced-is endpoints lines reached.before line ∙ (ap (λ b. b || cannot_stand endpoints lines reached.before line) (sym reached.ended_is ∙ going) ∙ good) in
      let none : has_end reached.before ≡ false = sym reached.ended_is ∙ going in (
        record {
          before = line ∷ reached.before;
          after = first.0;
          are = first.2;
          same = from ∙ (cond-false (is_misplaced endpoints lines reached.before line) (Some number) (first_from (is_misplaced endpoints lines) (number + 1) (line ∷ reached.before) first.0) fine
              ∙ ap (λ n. first_from (is_misplaced endpoints lines) n (line ∷ reached.before) first.0) (sym is));
          stands = stands;
          ended_is = sym (end-more line reached.before ∙ (ap (λ b. has_end (line ∷ []) || b) none ∙ or-false (has_end (line ∷ []))));
          has = reached.has ∙ (ap (λ xs. has_end reached.before || has_end xs) first.1
              ∙ (ap (λ b. has_end reached.before || b) (end-more line first.0)
              ∙ (swap (has_end reached.before) (has_end (line ∷ [])) (has_end first.0)
              ∙ ap (λ b. b || has_end first.0) (sym (end-more line reached.before)))));
          count = omega (arith, is, reached.count, ap (λ xs. length xs) first.1);
        },
        first.1,
      )

-- ---- at the end

module _ (endpoints : ℕ) (lines : List (Option Line)) (rest : List ℕ) (number : ℕ) (ended : Bool) (last : Option Recorded) (sums : Sums) (reached : Reached endpoints lines rest number ended last sums) (empty : rest ≡ []) where
  nothing : reached.after ≡ []
  nothing = empty_text reached.after (subst (λ xs. ReadsLines xs reached.after) empty reached.are)

  none_found : first_misplaced endpoints lines ≡ after_last lines
  none_found = ap (λ o. or_else o (after_last lines)) (reached.same ∙ ap (λ xs. first_from (is_misplaced endpoints lines) number reached.before xs) nothing)

  has_one : has_end lines ≡ ended
  has_one = reached.has ∙ (ap (λ xs. has_end reached.before || has_end xs) nothing ∙ (or-false (has_end reached.before) ∙ sym reached.ended_is))

  pub with_end : ended ≡ true → None ≡ first_misplaced endpoints lines
  with_end end = sym (none_found ∙ cond-true (has_end lines) None (Some (length lines + 1)) (has_one ∙ end))

  pub without_end : ended ≡ false → Some number ≡ first_misplaced endpoints lines
  without_end never =
      let is : length lines + 1 ≡ number = omega (arith, reached.count, ap (λ xs. length xs) nothing) in
      sym (none_found ∙ (cond-false (has_end lines) None (Some (length lines + 1)) (has_one ∙ never) ∙ ap (λ n. Some n) is))
