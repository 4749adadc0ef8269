-- The laws of both ends.
use Rattle.std.proofs.Common.{◌≡◌, ℕ, ◌+◌, ◌-◌, ◌<◌, ◌≤◌, Bool, true, false, ◌&&◌, ◌||◌, not, cond, nat_lt, ◌==◌, List, [], ◌∷◌, ◌++◌, Option, None, is_none, sym, ◌∙◌, ap, subst, refl, inl, inr, arith}
use Rattle.std.specs.Int.{bit_at}
use Rattle.std.specs.List.{list_any}
use Rattle.std.proofs.lemmas.List.Folds.{list_any-append}
use Rattle.std.proofs.lemmas.Bool.{cases_lt, cases_eq, ltb-true, eqb-true, lt-ltb, le-ltb, eq-eqb, ne_eqb, and_parts, or_cases, or_left, or_right, false_from_ne_true, not-true, not_from_false}
use Rattle.list_facts.proofs.Bools.{bit_test}
use Rattle.ack_window.specs.declared.acknowledgement.Decision.{Decision}
use Rattle.ack_window.specs.declared.send_window.Unresolved.{Unresolved}
use Rattle.ack_window.specs.Acknowledgement.{shows, decision_by, decision_read}
use Rattle.ack_window.specs.Arrivals.{highest, has_come, receive_verdict, is_fresh, is_number_taken, acknowledgement}
use Rattle.ack_window.specs.Kept.{RisesWithin, IsKept}
use Rattle.ack_window.specs.Outstanding.{left_in}
use Rattle.ack_window.specs.Sends.{Event, Sends, Reads, newest_of, numbers_sent, decision_of, open_numbers, SendsWithin}
use Rattle.ack_window.specs.Laws.{ShownWasTaken, LostIsNeverTaken, UndecidedIsStillTaken, OpenIsWithinSpan}
use Rattle.ack_window.proofs.Taking.{told, told-low, bit_at-stands, is_taken-came, is_taken-above, is_taken-stale, is_taken-other, came-highest, verdict-old, verdict-fresh}
use Rattle.ack_window.proofs.Sending.{IsKept-push, IsKept-read, open_numbers-Sends, open_numbers-Reads, left_in-none, left_in-same, decision_read-passed, decision_read-read}

-- the bits of the acknowledgement
bit_at-told : (reorder span : ℕ) (arrived : List ℕ) (i : ℕ) → i < span → bit_at (acknowledgement reorder span arrived).mask i ≡ cond (told reorder arrived i) 1 0
bit_at-told reorder span arrived i within = bit_at-stands reorder span (acknowledgement reorder span arrived) arrived (record { high = refl; mask = refl }) i within

-- an acknowledgement shows, as far as its mask reaches, just the numbers that were taken
pub shows-taken : (reorder span : ℕ) (arrived : List ℕ) (number : ℕ) → 1 ≤ number → highest arrived ≤ number + span →
    shows span (acknowledgement reorder span arrived) number ≡ is_number_taken reorder arrived number
shows-taken reorder span arrived number counted reached =
    elim (cases_eq number (highest arrived)) [
      | inl top ↦
          rw (eq-eqb number (highest arrived) top)
          (sym (is_taken-came reorder arrived number (omega arith) ∙ ap (λ n. has_come arrived n) top ∙ came-highest arrived (omega arith)))
      | inr other ↦
          rw (ne_eqb number (highest arrived) other)
          (elim (cases_lt number (highest arrived)) [
            | inr above ↦ rw (le-ltb number (highest arrived) above) (sym (is_taken-above reorder arrived number (omega arith)))
            | inl below ↦
                let place = highest arrived - 1 - number in
                let within : place < span = omega arith in
                let it : highest arrived - 1 - place ≡ number = omega arith in
                rw (lt-ltb number (highest arrived) below, lt-ltb place span within)
                (ap (λ b. b == 1) (bit_at-told reorder span arrived place within) ∙ bit_test (told reorder arrived place)
                ∙ told-low reorder arrived place (omega arith) ∙ ap (λ n. is_number_taken reorder arrived n) it)
          ])
    ]

pub shown_was_taken : ShownWasTaken
shown_was_taken reorder span arrived number counted shown =
    let reached : highest arrived ≤ number + span =
    elim (or_cases (number == highest arrived) _ shown) [
      | inl top ↦ let is = eqb-true number (highest arrived) top in omega arith
      | inr below ↦
          let parts = and_parts (nat_lt number (highest arrived)) _ below in
          let place = and_parts (nat_lt (highest arrived - 1 - number) span) _ parts.1 in
          let within = ltb-true (highest arrived - 1 - number) span place.0 in
          omega arith
    ] in
    sym (shows-taken reorder span arrived number counted reached) ∙ shown

pub highest-later : (later arrived : List ℕ) → highest arrived ≤ highest (later ++ arrived)
highest-later [] arrived = omega arith
highest-later (latest ∷ later) arrived = omega (arith, highest-later later arrived)

-- a number that is old and not taken stays so
pub never_taken : (reorder : ℕ) (later arrived : List ℕ) (number : ℕ) → number + reorder < highest arrived → is_number_taken reorder arrived number ≡ false → is_number_taken reorder (later ++ arrived) number ≡ false
never_taken reorder [] arrived number old new = new
never_taken reorder (latest ∷ later) arrived number old new =
    let before = never_taken reorder later arrived number old new in
    elim (cases_eq latest number) [
      | inr other ↦ is_taken-other reorder latest (later ++ arrived) number other ∙ before
      | inl same ↦
          let stale : is_fresh (receive_verdict reorder (later ++ arrived) latest) ≡ false =
          ap is_fresh (verdict-old reorder (later ++ arrived) latest (omega (arith, highest-later later arrived))) in
          is_taken-stale reorder latest (later ++ arrived) number stale ∙ before
    ]

pub lost_is_never_taken : LostIsNeverTaken
lost_is_never_taken reorder span arrived later number counted reached lost =
    let parts = and_parts (nat_lt (number + reorder) (highest arrived)) (not (shows span (acknowledgement reorder span arrived) number)) lost in
    let hidden = not-true (shows span (acknowledgement reorder span arrived) number) parts.1 in
    never_taken reorder later arrived number (ltb-true (number + reorder) (highest arrived) parts.0)
    (sym (shows-taken reorder span arrived number counted reached) ∙ hidden)

pub undecided_is_still_taken : UndecidedIsStillTaken
undecided_is_still_taken reorder span arrived number counted reached hidden kept =
    let unseen : shows span (acknowledgement reorder span arrived) number ≡ false = false_from_ne_true (shows span (acknowledgement reorder span arrived) number) hidden in
    elim (cases_lt (number + reorder) (highest arrived)) [
      | inl far ↦ absurd (kept (ap (λ b. b && not (shows span (acknowledgement reorder span arrived) number)) (lt-ltb (number + reorder) (highest arrived) far) ∙ not_from_false (shows span (acknowledgement reorder span arrived) number) unseen))
      | inr near ↦
          verdict-fresh reorder arrived number near (sym (is_taken-came reorder arrived number near) ∙ sym (shows-taken reorder span arrived number counted reached) ∙ unseen)
    ]

-- ---- open numbers

pub IsKept-history : {T : Type 0} (reorder span : ℕ) (history : List (Event T)) → SendsWithin reorder span history → IsKept reorder span (newest_of history) (open_numbers reorder span history)
IsKept-history reorder span [] within = record { within = tt; once_resolved = λ _. tt }
IsKept-history {T} reorder span (Sends content ∷ earlier) within =
    subst (λ (xs : List (Unresolved T)). IsKept reorder span (newest_of earlier + 1) xs) (sym (open_numbers-Sends reorder span content earlier))
    (IsKept-push reorder span (newest_of earlier) content (open_numbers reorder span earlier) (IsKept-history reorder span earlier within.1) within.0)
IsKept-history {T} reorder span (Reads a ∷ earlier) within =
    let before = IsKept-history reorder span earlier within in
    let sent = open_numbers reorder span earlier in
    let read_all = decision_read reorder span (newest_of earlier) a in
    let P : List (Unresolved T) → Type 0 = λ xs. IsKept reorder span (newest_of earlier) xs in
    subst P (sym (open_numbers-Reads reorder span a earlier))
    (elim (cases_lt (newest_of earlier) a.high) [
      | inl passed ↦ subst P (sym (left_in-none read_all (decision_read-passed reorder span (newest_of earlier) a passed) sent)) before
      | inr read ↦
          subst P (left_in-same (decision_by reorder span a) read_all (decision_read-read reorder span (newest_of earlier) a read) sent)
          (IsKept-read reorder span (newest_of earlier) a sent before read)
    ])

-- the number is among these
abbrev has : {T : Type 0} → ℕ → List (Unresolved T) → Bool
has number xs = list_any (λ s. s.number == number) xs

numbers_sent-has : {T : Type 0} (history : List (Event T)) (number : ℕ) → 1 ≤ number → number ≤ newest_of history → has number (numbers_sent history) ≡ true
numbers_sent-has [] number counted sent = absurd (omega arith)
numbers_sent-has {T} (Sends content ∷ earlier) number counted sent =
    let new : List (Unresolved T) = record { number = newest_of earlier + 1; content = content } ∷ [] in
    list_any-append (λ s. s.number == number) (numbers_sent earlier) new
    ∙ elim (cases_lt (newest_of earlier) number) [
      | inr before ↦ or_left (has number (numbers_sent earlier)) (has number new) (numbers_sent-has earlier number counted before)
      | inl after ↦
          or_right (has number (numbers_sent earlier)) (has number new)
          (or_left (newest_of earlier + 1 == number) false (eq-eqb (newest_of earlier + 1) number (omega arith)))
    ]
numbers_sent-has (Reads a ∷ earlier) number counted sent = numbers_sent-has earlier number counted sent

left_in-has : {T : Type 0} (decision : ℕ → Option Decision) (number : ℕ) (xs : List (Unresolved T)) → decision number ≡ None → has number xs ≡ true → has number (left_in decision xs) ≡ true
left_in-has decision number [] none here = here
left_in-has decision number (s ∷ rest) none here =
    elim (cases_eq s.number number) [
      | inl same ↦
          let left : is_none (decision s.number) ≡ true = ap is_none (ap decision same ∙ none) in
          rw left (or_left (s.number == number) (has number (left_in decision rest)) (eq-eqb s.number number same))
      | inr other ↦
          let skipped : has number rest ≡ true = sym (ap (λ b. b || has number rest) (ne_eqb s.number number other)) ∙ here in
          let after = left_in-has decision number rest none skipped in
          elim (is_none (decision s.number)) as (λ b. has number (cond b (s ∷ left_in decision rest) (left_in decision rest)) ≡ true) [
            | true ↦ or_right (s.number == number) (has number (left_in decision rest)) after
            | false ↦ after
          ]
    ]

RisesWithin-has : {T : Type 0} (low high number : ℕ) (xs : List (Unresolved T)) → RisesWithin low high xs → has number xs ≡ true → low ≤ number
RisesWithin-has low high number [] rises here = absurd (cc)
RisesWithin-has low high number (s ∷ rest) rises here =
    let first = rises.0 in
    elim (cases_eq s.number number) [
      | inl same ↦ omega arith
      | inr other ↦
          let skipped : has number rest ≡ true = sym (ap (λ b. b || has number rest) (ne_eqb s.number number other)) ∙ here in
          omega (arith, RisesWithin-has (s.number + 1) high number rest rises.2 skipped)
    ]

pub open_is_within_span : (T : Type 0) → OpenIsWithinSpan T
open_is_within_span T reorder span history number within is_open =
    let here = left_in-has (decision_of reorder span history) number (numbers_sent history) is_open.undecided (numbers_sent-has history number is_open.counted is_open.sent) in
    let kept = IsKept-history reorder span history within in
    let low = RisesWithin-has (newest_of history - span) (newest_of history) number (open_numbers reorder span history) kept.within here in
    omega arith
