-- The contents of numbers.
use Rattle.std.proofs.Common.{◌≡◌, ℕ, ◌+◌, ◌≤◌, Bool, true, false, cond, ◌==◌, List, [], ◌∷◌, ◌++◌, Option, Some, None, is_none, ◌∙◌, ap, subst, refl, inl, inr, arith}
use Rattle.std.specs.Prelude.{unwrap_or}
use Rattle.std.specs.List.{All}
use Rattle.std.proofs.lemmas.Bool.{cases_eq, eq-eqb, ne_eqb, cond-true, cond-false}
use Rattle.std.proofs.lemmas.List.Elements.{All-nil, All-cons, All-head, All-tail, All-push, All-filter}
use Rattle.ack_window.specs.declared.send_window.Unresolved.{Unresolved}
use Rattle.ack_window.specs.declared.acknowledgement.Acknowledgement.{Acknowledgement}
use Rattle.ack_window.specs.declared.acknowledgement.Decision.{Decision}
use Rattle.ack_window.specs.Acknowledgement.{decision_read}
use Rattle.ack_window.specs.Ends.{content_of}
use Rattle.ack_window.specs.Outstanding.{may_send_new, decided_in, left_in}
use Rattle.ack_window.specs.Sends.{Event, Sends, Reads, newest_of, newest_content, numbers_sent, decision_of, open_numbers, decided_by}

module _ {T : Type 0} where
  numbers_sent-none : (sent : List (Event T)) → newest_of sent ≡ 0 → numbers_sent sent ≡ []
  numbers_sent-none [] none = refl
  numbers_sent-none (Sends content ∷ earlier) none = absurd (omega arith)
  numbers_sent-none (Reads ack ∷ earlier) none = numbers_sent-none earlier none

  -- where no new number may be sent, some number was sent
  pub newest-counted : (reorder span : ℕ) (sent : List (Event T)) → may_send_new span (newest_of sent) (open_numbers reorder span sent) ≡ false → 1 ≤ newest_of sent
  newest-counted reorder span sent stopped =
      elim (cases_eq (newest_of sent) 0) [
        | inr some ↦ omega arith
        | inl none ↦
            let left : open_numbers reorder span sent ≡ [] = ap (λ xs. left_in (decision_of reorder span sent) xs) (numbers_sent-none sent none) in
            let may : may_send_new span (newest_of sent) (open_numbers reorder span sent) ≡ true = ap (λ xs. may_send_new span (newest_of sent) xs) left in
            absurd (cc)
      ]

  pub content_of-newest : (sent : List (Event T)) (other : T) → 1 ≤ newest_of sent → content_of sent (newest_of sent) ≡ Some (unwrap_or (newest_content sent) other)
  content_of-newest [] other some = absurd (omega arith)
  content_of-newest (Sends content ∷ earlier) other some = cond-true (newest_of earlier + 1 == newest_of earlier + 1) (Some content) (content_of earlier (newest_of earlier + 1)) (eq-eqb (newest_of earlier + 1) (newest_of earlier + 1) refl)
  content_of-newest (Reads ack ∷ earlier) other some = content_of-newest earlier other some

  -- ---- a number's content never changes

  -- a number with a content was sent
  content_of-known : (sent : List (Event T)) (number : ℕ) (content : T) → content_of sent number ≡ Some content → number ≤ newest_of sent
  content_of-known [] number content is = absurd (cc)
  content_of-known (Reads ack ∷ earlier) number content is = content_of-known earlier number content is
  content_of-known (Sends latest ∷ earlier) number content is =
      elim (cases_eq number (newest_of earlier + 1)) [
        | inl here ↦ omega arith
        | inr other ↦
            let before : content_of earlier number ≡ Some content =
            subst (λ (b : Bool). cond b (Some latest) (content_of earlier number) ≡ Some content) (ne_eqb number (newest_of earlier + 1) other) is in
            omega (arith, content_of-known earlier number content before)
      ]

  -- a number that was sent keeps its content when the next one is sent
  content_of-older : (earlier : List (Event T)) (latest content : T) (number : ℕ) → content_of earlier number ≡ Some content → content_of (Sends latest ∷ earlier) number ≡ Some content
  content_of-older earlier latest content number is =
      let known = content_of-known earlier number content is in
      cond-false (number == newest_of earlier + 1) (Some latest) (content_of earlier number) (ne_eqb number (newest_of earlier + 1) (omega arith)) ∙ is

  pub content_of-later : (later sent : List (Event T)) (number : ℕ) (content : T) → content_of sent number ≡ Some content → content_of (later ++ sent) number ≡ Some content
  content_of-later [] sent number content is = is
  content_of-later (Sends latest ∷ later) sent number content is = content_of-older (later ++ sent) latest content number (content_of-later later sent number content is)
  content_of-later (Reads ack ∷ later) sent number content is = content_of-later later sent number content is

  -- a number is listed with its content
  pub numbers_sent-contents : (sent : List (Event T)) → All (λ s. content_of sent s.number ≡ Some s.content) (numbers_sent sent)
  numbers_sent-contents [] = All-nil _
  numbers_sent-contents (Reads ack ∷ earlier) = numbers_sent-contents earlier
  numbers_sent-contents (Sends latest ∷ earlier) =
      All-push (λ s. content_of (Sends latest ∷ earlier) s.number ≡ Some s.content) (numbers_sent earlier) (record { number = newest_of earlier + 1; content = latest })
      (λ k d within. content_of-older earlier latest _ _ (numbers_sent-contents earlier k d within))
      (cond-true (newest_of earlier + 1 == newest_of earlier + 1) (Some latest) (content_of earlier (newest_of earlier + 1)) (eq-eqb (newest_of earlier + 1) (newest_of earlier + 1) refl))

  pub open_numbers-contents : (reorder span : ℕ) (sent : List (Event T)) → All (λ s. content_of sent s.number ≡ Some s.content) (open_numbers reorder span sent)
  open_numbers-contents reorder span sent =
      All-filter (λ s. is_none (decision_of reorder span sent s.number)) (λ s. content_of sent s.number ≡ Some s.content) (numbers_sent sent) (numbers_sent-contents sent)

  -- what is decided is decided with its content
  decided_in-contents : (decision : ℕ → Option Decision) (sent : List (Event T)) (xs : List (Unresolved T)) → All (λ s. content_of sent s.number ≡ Some s.content) xs →
      All (λ d. content_of sent d.number ≡ Some d.content) (decided_in decision xs)
  decided_in-contents decision sent [] all = All-nil _
  decided_in-contents decision sent (s ∷ xs) all =
      let rest = decided_in-contents decision sent xs (All-tail (λ x. content_of sent x.number ≡ Some x.content) s xs all) in
      let here = All-head (λ x. content_of sent x.number ≡ Some x.content) s xs all in
      one (decision s.number) refl here rest
    where
      one : (o : Option Decision) → decision s.number ≡ o → content_of sent s.number ≡ Some s.content →
          All (λ d. content_of sent d.number ≡ Some d.content) (decided_in decision xs) → All (λ d. content_of sent d.number ≡ Some d.content) (decided_in decision (s ∷ xs))
      one None is here rest = rw is rest
      one (Some d) is here rest = rw is (All-cons (λ x. content_of sent x.number ≡ Some x.content) _ _ here rest)

  pub decided_by-contents : (reorder span : ℕ) (sent : List (Event T)) (ack : Acknowledgement) → All (λ d. content_of sent d.number ≡ Some d.content) (decided_by reorder span sent ack)
  decided_by-contents reorder span sent ack =
      decided_in-contents (decision_read reorder span (newest_of sent) ack) sent (open_numbers reorder span sent) (open_numbers-contents reorder span sent)
