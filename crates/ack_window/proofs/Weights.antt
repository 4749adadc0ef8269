-- Weights of contents, summed over the numbers of which a test holds.
use Rattle.std.proofs.Common.{◌≡◌, ◌≢◌, ℕ, ◌+◌, ◌≤◌, Bool, true, false, cond, List, [], ◌∷◌, Option, Some, None, is_none, sym, ◌∙◌, ap, subst, refl, inl, inr, arith}
use Rattle.std.specs.Prelude.{sum_by}
use Rattle.std.proofs.lemmas.Bool.{cases_eq, cases_Bool, eq-eqb, ne_eqb}
use Rattle.std.proofs.lemmas.List.Sums.{sum_by_push, sum_by-cons}
use Rattle.ack_window.specs.declared.acknowledgement.Decision.{Decision}
use Rattle.ack_window.specs.declared.acknowledgement.Decision.TheVariants.{Acknowledged, Lost}
use Rattle.ack_window.specs.declared.send_window.Decided.{Decided}
use Rattle.ack_window.specs.declared.send_window.Unresolved.{Unresolved}
use Rattle.ack_window.specs.Acknowledgement.{is_acknowledged, is_found_lost, decision_read}
use Rattle.ack_window.specs.Ends.{content_of}
use Rattle.ack_window.specs.Outstanding.{decided_in, left_in}
use Rattle.ack_window.specs.Sends.{Event, Sends, Reads, newest_of, numbers_sent, decision_of, first_decision, open_numbers, decided_by}
use Rattle.ack_window.specs.Weights.{weight_in, weight_lost, weight_shown, EachNumberIsOneOfThree, AReadingMovesWhatItDecides, WeightsAddUp}
use Rattle.ack_window.proofs.Sending.{open_numbers-Reads}

module _ {T : Type 0} (weight : T → ℕ) where
  -- ---- event by event and test by test

  weight_in-sends : (test : ℕ → Bool) (content : T) (history : List (Event T)) →
      weight_in weight test (Sends content ∷ history) ≡ weight_in weight test history + cond (test (newest_of history + 1)) (weight content) 0
  weight_in-sends test content history = sum_by_push _ (numbers_sent history) (record { number = newest_of history + 1; content = content })

  weight_in-same : (t u : ℕ → Bool) (history : List (Event T)) → ((n : ℕ) → 1 ≤ n → n ≤ newest_of history → t n ≡ u n) → weight_in weight t history ≡ weight_in weight u history
  weight_in-same t u [] same = refl
  weight_in-same t u (Reads ack ∷ history) same = weight_in-same t u history same
  weight_in-same t u (Sends content ∷ history) same =
      let before = weight_in-same t u history (λ n counted sent. same n counted (omega arith)) in
      let here = ap (λ b. cond b (weight content) 0) (same (newest_of history + 1) (omega arith) (omega arith)) in
      let left = weight_in-sends t content history in
      let right = weight_in-sends u content history in
      omega arith

  weight_in-more : (t u : ℕ → Bool) (history : List (Event T)) → ((n : ℕ) → t n ≡ true → u n ≡ true) → weight_in weight t history ≤ weight_in weight u history
  weight_in-more t u [] more = omega arith
  weight_in-more t u (Reads ack ∷ history) more = weight_in-more t u history more
  weight_in-more t u (Sends content ∷ history) more =
      let rest = weight_in-more t u history more in
      let one = weight_in-sends t content history in
      let two = weight_in-sends u content history in
      let here : cond (t (newest_of history + 1)) (weight content) 0 ≤ cond (u (newest_of history + 1)) (weight content) 0 =
      elim (cases_Bool (t (newest_of history + 1))) [
        | inl holds ↦ rw (holds, more (newest_of history + 1) holds) (omega arith)
        | inr fails ↦ rw fails (omega arith)
      ] in
      omega arith

  weight_in-one : (t u : ℕ → Bool) (history : List (Event T)) (number : ℕ) (content : T) → content_of history number ≡ Some content →
      t number ≡ false → u number ≡ true → ((n : ℕ) → n ≢ number → t n ≡ u n) →
      weight_in weight u history ≡ weight_in weight t history + weight content
  weight_in-one t u [] number content is before after others = absurd (cc)
  weight_in-one t u (Reads ack ∷ history) number content is before after others = weight_in-one t u history number content is before after others
  weight_in-one t u (Sends latest ∷ history) number content is before after others =
      let left = weight_in-sends u latest history in
      let right = weight_in-sends t latest history in
      elim (cases_eq number (newest_of history + 1)) [
        | inl here ↦
            let it : Some latest ≡ Some content = subst (λ (b : Bool). cond b (Some latest) (content_of history number) ≡ Some content) (eq-eqb number (newest_of history + 1) here) is in
            let same : latest ≡ content = cc in
            let heavy = ap weight same in
            let rest = weight_in-same t u history (λ n counted sent. others n (omega arith)) in
            let is_u : cond (u (newest_of history + 1)) (weight latest) 0 ≡ weight latest = ap (λ b. cond b (weight latest) 0) (ap u (sym here) ∙ after) in
            let is_t : cond (t (newest_of history + 1)) (weight latest) 0 ≡ 0 = ap (λ b. cond b (weight latest) 0) (ap t (sym here) ∙ before) in
            omega arith
        | inr other ↦
            let earlier : content_of history number ≡ Some content = subst (λ (b : Bool). cond b (Some latest) (content_of history number) ≡ Some content) (ne_eqb number (newest_of history + 1) other) is in
            let rest = weight_in-one t u history number content earlier before after others in
            let same : cond (t (newest_of history + 1)) (weight latest) 0 ≡ cond (u (newest_of history + 1)) (weight latest) 0 =
            ap (λ b. cond b (weight latest) 0) (others (newest_of history + 1) (λ h. other (sym h))) in
            omega arith
      ]

  weight_in-apart : (t u : ℕ → Bool) (history : List (Event T)) → ((n : ℕ) → 1 ≤ n → u n ≡ true → t n ≡ false) →
      weight_in weight t history + weight_in weight u history ≤ weight_in weight (λ n. true) history
  weight_in-apart t u [] apart = omega arith
  weight_in-apart t u (Reads ack ∷ history) apart = weight_in-apart t u history apart
  weight_in-apart t u (Sends content ∷ history) apart =
      let rest = weight_in-apart t u history apart in
      let one = weight_in-sends t content history in
      let two = weight_in-sends u content history in
      let all = weight_in-sends (λ n. true) content history in
      let here : cond (t (newest_of history + 1)) (weight content) 0 + cond (u (newest_of history + 1)) (weight content) 0 ≤ weight content =
      elim (cases_Bool (u (newest_of history + 1))) [
        | inl holds ↦ rw (holds, apart (newest_of history + 1) (omega arith) holds) (omega arith)
        | inr fails ↦ rw fails (elim (t (newest_of history + 1)) as (λ b. cond b (weight content) 0 + 0 ≤ weight content) [ true ↦ omega arith | false ↦ omega arith ])
      ] in
      omega arith

  -- ---- what a reading decides

  -- what a decision before and one now make of a number: shown or lost before, shown or lost now, or open
  lost-in : (before now : ℕ → Option Decision) (xs : List (Unresolved T)) →
      sum_by (λ (s : Unresolved T). cond (is_found_lost (first_decision (before s.number) (now s.number))) (weight s.content) 0) xs
      ≡ sum_by (λ (s : Unresolved T). cond (is_found_lost (before s.number)) (weight s.content) 0) xs + weight_lost weight (decided_in now (left_in before xs))
  lost-in before now [] = refl
  lost-in before now (s ∷ xs) =
      let rest = lost-in before now xs in
      let all = sum_by-cons (λ (x : Unresolved T). cond (is_found_lost (first_decision (before x.number) (now x.number))) (weight x.content) 0) s xs in
      let old = sum_by-cons (λ (x : Unresolved T). cond (is_found_lost (before x.number)) (weight x.content) 0) s xs in
      let here : cond (is_found_lost (first_decision (before s.number) (now s.number))) (weight s.content) 0 + weight_lost weight (decided_in now (left_in before xs))
      ≡ cond (is_found_lost (before s.number)) (weight s.content) 0 + weight_lost weight (decided_in now (left_in before (s ∷ xs))) =
      one s.content s.number (before s.number) (now s.number) now (left_in before xs) refl in
      omega arith
    where
      one : (content : T) (number : ℕ) (b n : Option Decision) (now' : ℕ → Option Decision) (left : List (Unresolved T)) → now' number ≡ n →
          cond (is_found_lost (first_decision b n)) (weight content) 0 + weight_lost weight (decided_in now' left)
          ≡ cond (is_found_lost b) (weight content) 0 + weight_lost weight (decided_in now' (cond (is_none b) (record { number = number; content = content } ∷ left) left))
      one content number (Some d) n now' left h = refl
      one content number None None now' left h = rw h refl
      one content number None (Some Acknowledged) now' left h =
          rw h (omega (arith, sum_by-cons (λ (d : Decided T). cond d.lost (weight d.content) 0) (record { number = number; lost = false; content = content }) (decided_in now' left)))
      one content number None (Some Lost) now' left h =
          rw h (omega (arith, sum_by-cons (λ (d : Decided T). cond d.lost (weight d.content) 0) (record { number = number; lost = true; content = content }) (decided_in now' left)))

  shown-in : (before now : ℕ → Option Decision) (xs : List (Unresolved T)) →
      sum_by (λ (s : Unresolved T). cond (is_acknowledged (first_decision (before s.number) (now s.number))) (weight s.content) 0) xs
      ≡ sum_by (λ (s : Unresolved T). cond (is_acknowledged (before s.number)) (weight s.content) 0) xs + weight_shown weight (decided_in now (left_in before xs))
  shown-in before now [] = refl
  shown-in before now (s ∷ xs) =
      let rest = shown-in before now xs in
      let all = sum_by-cons (λ (x : Unresolved T). cond (is_acknowledged (first_decision (before x.number) (now x.number))) (weight x.content) 0) s xs in
      let old = sum_by-cons (λ (x : Unresolved T). cond (is_acknowledged (before x.number)) (weight x.content) 0) s xs in
      let here : cond (is_acknowledged (first_decision (before s.number) (now s.number))) (weight s.content) 0 + weight_shown weight (decided_in now (left_in before xs))
      ≡ cond (is_acknowledged (before s.number)) (weight s.content) 0 + weight_shown weight (decided_in now (left_in before (s ∷ xs))) =
      one s.content s.number (before s.number) (now s.number) now (left_in before xs) refl in
      omega arith
    where
      one : (content : T) (number : ℕ) (b n : Option Decision) (now' : ℕ → Option Decision) (left : List (Unresolved T)) → now' number ≡ n →
          cond (is_acknowledged (first_decision b n)) (weight content) 0 + weight_shown weight (decided_in now' left)
          ≡ cond (is_acknowledged b) (weight content) 0 + weight_shown weight (decided_in now' (cond (is_none b) (record { number = number; content = content } ∷ left) left))
      one content number (Some d) n now' left h = refl
      one content number None None now' left h = rw h refl
      one content number None (Some Acknowledged) now' left h =
          rw h (omega (arith, sum_by-cons (λ (d : Decided T). cond d.lost 0 (weight d.content)) (record { number = number; lost = false; content = content }) (decided_in now' left)))
      one content number None (Some Lost) now' left h =
          rw h (omega (arith, sum_by-cons (λ (d : Decided T). cond d.lost 0 (weight d.content)) (record { number = number; lost = true; content = content }) (decided_in now' left)))

  -- of open numbers a reading decides some and leaves the others
  open-in : (now : ℕ → Option Decision) (xs : List (Unresolved T)) →
      sum_by (λ (s : Unresolved T). weight s.content) xs ≡ sum_by (λ (s : Unresolved T). weight s.content) (left_in now xs) + sum_by (λ (d : Decided T). weight d.content) (decided_in now xs)
  open-in now [] = refl
  open-in now (s ∷ xs) =
      let rest = open-in now xs in
      let all = sum_by-cons (λ (x : Unresolved T). weight x.content) s xs in
      one s.content s.number (now s.number) now xs refl all rest
    where
      one : (content : T) (number : ℕ) (n : Option Decision) (now' : ℕ → Option Decision) (ys : List (Unresolved T)) → now' number ≡ n →
          sum_by (λ (x : Unresolved T). weight x.content) (record { number = number; content = content } ∷ ys) ≡ weight content + sum_by (λ (x : Unresolved T). weight x.content) ys →
          sum_by (λ (x : Unresolved T). weight x.content) ys ≡ sum_by (λ (x : Unresolved T). weight x.content) (left_in now' ys) + sum_by (λ (d : Decided T). weight d.content) (decided_in now' ys) →
          sum_by (λ (x : Unresolved T). weight x.content) (record { number = number; content = content } ∷ ys)
          ≡ sum_by (λ (x : Unresolved T). weight x.content) (left_in now' (record { number = number; content = content } ∷ ys))
          + sum_by (λ (d : Decided T). weight d.content) (decided_in now' (record { number = number; content = content } ∷ ys))
      one content number None now' ys h all rest =
          rw h (omega (arith, all, rest, sum_by-cons (λ (x : Unresolved T). weight x.content) (record { number = number; content = content }) (left_in now' ys)))
      one content number (Some Acknowledged) now' ys h all rest =
          rw h (omega (arith, all, rest, sum_by-cons (λ (d : Decided T). weight d.content) (record { number = number; lost = false; content = content }) (decided_in now' ys)))
      one content number (Some Lost) now' ys h all rest =
          rw h (omega (arith, all, rest, sum_by-cons (λ (d : Decided T). weight d.content) (record { number = number; lost = true; content = content }) (decided_in now' ys)))

  -- each number is open, acknowledged or lost
  three-in : (decision : ℕ → Option Decision) (xs : List (Unresolved T)) →
      sum_by (λ (s : Unresolved T). weight s.content) xs
      ≡ sum_by (λ (s : Unresolved T). weight s.content) (left_in decision xs)
      + sum_by (λ (s : Unresolved T). cond (is_acknowledged (decision s.number)) (weight s.content) 0) xs
      + sum_by (λ (s : Unresolved T). cond (is_found_lost (decision s.number)) (weight s.content) 0) xs
  three-in decision [] = refl
  three-in decision (s ∷ xs) =
      let rest = three-in decision xs in
      let all = sum_by-cons (λ (x : Unresolved T). weight x.content) s xs in
      let shown = sum_by-cons (λ (x : Unresolved T). cond (is_acknowledged (decision x.number)) (weight x.content) 0) s xs in
      let lost = sum_by-cons (λ (x : Unresolved T). cond (is_found_lost (decision x.number)) (weight x.content) 0) s xs in
      let here : weight s.content + sum_by (λ (x : Unresolved T). weight x.content) (left_in decision xs)
      ≡ sum_by (λ (x : Unresolved T). weight x.content) (left_in decision (s ∷ xs))
      + cond (is_acknowledged (decision s.number)) (weight s.content) 0 + cond (is_found_lost (decision s.number)) (weight s.content) 0 =
      one s.content s.number (decision s.number) (left_in decision xs) in
      omega arith
    where
      one : (content : T) (number : ℕ) (o : Option Decision) (left : List (Unresolved T)) →
          weight content + sum_by (λ (x : Unresolved T). weight x.content) left
          ≡ sum_by (λ (x : Unresolved T). weight x.content) (cond (is_none o) (record { number = number; content = content } ∷ left) left)
          + cond (is_acknowledged o) (weight content) 0 + cond (is_found_lost o) (weight content) 0
      one content number None left = omega (arith, sum_by-cons (λ (x : Unresolved T). weight x.content) (record { number = number; content = content }) left)
      one content number (Some Acknowledged) left = omega arith
      one content number (Some Lost) left = omega arith

-- ---- the laws

pub each_number_is_one_of_three : (T : Type 0) → EachNumberIsOneOfThree T
each_number_is_one_of_three T = record {
  parts = λ weight reorder span history. three-in weight (decision_of reorder span history) (numbers_sent history);
}

pub a_reading_moves_what_it_decides : (T : Type 0) → AReadingMovesWhatItDecides T
a_reading_moves_what_it_decides T = record {
  shown = λ weight reorder span history ack. shown-in weight (decision_of reorder span history) (decision_read reorder span (newest_of history) ack) (numbers_sent history);
  lost = λ weight reorder span history ack. lost-in weight (decision_of reorder span history) (decision_read reorder span (newest_of history) ack) (numbers_sent history);
  waiting = λ weight reorder span history ack.
      open-in weight (decision_read reorder span (newest_of history) ack) (open_numbers reorder span history)
      ∙ ap (λ xs. sum_by (λ (s : Unresolved T). weight s.content) xs + sum_by (λ (d : Decided T). weight d.content) (decided_by reorder span history ack)) (sym (open_numbers-Reads reorder span ack history));
}

pub weights_add_up : (T : Type 0) → WeightsAddUp T
weights_add_up T = record {
  nothing = λ weight test. refl;
  reads = λ weight test ack history. refl;
  sends = weight_in-sends;
  same = weight_in-same;
  more = weight_in-more;
  one = weight_in-one;
  apart = weight_in-apart;
}
