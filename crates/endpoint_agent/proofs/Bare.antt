-- Numbers without what their requests name.
use Rattle.std.proofs.Common.{◌≡◌, ℕ, zero, suc, ◌+◌, ◌<◌, ◌≤◌, max, Bool, true, false, cond, List, [], ◌∷◌, ◌++◌, map, Option, Some, None, unwrap_or, refl, sym, ◌∙◌, ap, inl, inr, arith}
use Rattle.std.specs.Prelude.{is_none}
use Rattle.std.proofs.lemmas.Bool.{cases_Bool, eq-eqb, false≢true}
use Rattle.std.proofs.lemmas.List.{map-append}
use Rattle.ack_window.specs.declared.acknowledgement.Acknowledgement.{Acknowledgement}
use Rattle.ack_window.specs.declared.acknowledgement.Decision.{Decision}
use Rattle.ack_window.specs.declared.acknowledgement.Decision.TheVariants.{Acknowledged, Lost}
use Rattle.ack_window.specs.declared.send_window.Decided.{Decided}
use Rattle.ack_window.specs.declared.send_window.Unresolved.{Unresolved}
use Rattle.ack_window.specs.Acknowledgement.{is_acknowledged, decision_read}
use Rattle.ack_window.specs.Ends.{content_of}
use Rattle.ack_window.specs.Outstanding.{may_send_new, decided_in, left_in}
use Rattle.ack_window.specs.Sends.{Event, Sends, Reads, newest_of, newest_content, numbers_sent, decision_of, first_decision, open_numbers, decided_by}
use Rattle.fcp_framing.specs.declared.packet.Demand.{Demand}
use Rattle.endpoint_history.proofs.CallCounts.{read-above}
use Rattle.endpoint_agent.specs.Carrying.{bare, greatest_in, greatest_acknowledged, greatest_shown}

pub bare-newest : (sent : List (Event (List Demand))) → newest_of (map bare sent) ≡ newest_of sent
bare-newest [] = refl
bare-newest (Sends demands ∷ earlier) = ap (λ (n : ℕ). n + 1) (bare-newest earlier)
bare-newest (Reads ack ∷ earlier) = bare-newest earlier

-- a number is decided alike
bare-decision : (reorder span : ℕ) (sent : List (Event (List Demand))) (number : ℕ) → decision_of reorder span (map bare sent) number ≡ decision_of reorder span sent number
bare-decision reorder span [] number = refl
bare-decision reorder span (Sends demands ∷ earlier) number = bare-decision reorder span earlier number
bare-decision reorder span (Reads ack ∷ earlier) number =
    ap (λ (first : Option Decision). first_decision first (decision_read reorder span (newest_of (map bare earlier)) ack number)) (bare-decision reorder span earlier number)
    ∙ ap (λ (n : ℕ). first_decision (decision_of reorder span earlier number) (decision_read reorder span n ack number)) (bare-newest earlier)

abbrev strip : Unresolved (List Demand) → Unresolved (Unit {0})
strip s = record { number = s.number; content = tt }

bare-numbers : (sent : List (Event (List Demand))) → numbers_sent (map bare sent) ≡ map strip (numbers_sent sent)
bare-numbers [] = refl
bare-numbers (Sends demands ∷ earlier) =
    ap (λ (xs : List (Unresolved (Unit {0}))). xs ++ record { number = newest_of (map bare earlier) + 1; content = tt } ∷ []) (bare-numbers earlier)
    ∙ ap (λ (n : ℕ). map strip (numbers_sent earlier) ++ record { number = n + 1; content = tt } ∷ []) (bare-newest earlier)
    ∙ sym (map-append strip (numbers_sent earlier) (record { number = newest_of earlier + 1; content = demands } ∷ []))
bare-numbers (Reads ack ∷ earlier) = bare-numbers earlier

greatest-strip : (test test' : ℕ → Bool) → ((n : ℕ) → test n ≡ test' n) → (xs : List (Unresolved (List Demand))) → greatest_in test (map strip xs) ≡ greatest_in test' xs
greatest-strip test test' same [] = refl
greatest-strip test test' same (s ∷ xs) =
    ap (λ (b : Bool). cond b (max s.number (greatest_in test (map strip xs))) (greatest_in test (map strip xs))) (same s.number)
    ∙ ap (λ (n : ℕ). cond (test' s.number) (max s.number n) n) (greatest-strip test test' same xs)

pub bare-greatest : (reorder span : ℕ) (sent : List (Event (List Demand))) → greatest_acknowledged reorder span (map bare sent) ≡ greatest_acknowledged reorder span sent
bare-greatest reorder span sent =
    ap (greatest_in (λ (n : ℕ). is_acknowledged (decision_of reorder span (map bare sent) n))) (bare-numbers sent)
    ∙ greatest-strip (λ n. is_acknowledged (decision_of reorder span (map bare sent) n)) (λ n. is_acknowledged (decision_of reorder span sent n))
    (λ n. ap is_acknowledged (bare-decision reorder span sent n)) (numbers_sent sent)

may_send-strip : (decision decision' : ℕ → Option Decision) (span newest : ℕ) → ((n : ℕ) → decision n ≡ decision' n) → (xs : List (Unresolved (List Demand)))
    → may_send_new span newest (left_in decision (map strip xs)) ≡ may_send_new span newest (left_in decision' xs)
may_send-strip decision decision' span newest same [] = refl
may_send-strip decision decision' span newest same (s ∷ xs) =
    let is = ap (λ (d : Option Decision). is_none d) (same s.number) in
    let rest = may_send-strip decision decision' span newest same xs in
    elim (cases_Bool (is_none (decision' s.number))) [
      | inl t ↦ rw (is, t) refl
      | inr f ↦ rw (is, f) rest
    ]

-- a new number may be sent alike
pub bare-may_send : (reorder span : ℕ) (sent : List (Event (List Demand))) →
    may_send_new span (newest_of (map bare sent)) (open_numbers reorder span (map bare sent)) ≡ may_send_new span (newest_of sent) (open_numbers reorder span sent)
bare-may_send reorder span sent =
    ap (λ (n : ℕ). may_send_new span n (open_numbers reorder span (map bare sent))) (bare-newest sent)
    ∙ ap (λ (xs : List (Unresolved (Unit {0}))). may_send_new span (newest_of sent) (left_in (decision_of reorder span (map bare sent)) xs)) (bare-numbers sent)
    ∙ may_send-strip (decision_of reorder span (map bare sent)) (decision_of reorder span sent) span (newest_of sent) (bare-decision reorder span sent) (numbers_sent sent)

-- ---- the newest number

numbers-none : (sent : List (Event (List Demand))) → newest_of sent ≡ 0 → numbers_sent sent ≡ []
numbers-none [] none = refl
numbers-none (Sends demands ∷ earlier) none = absurd (omega (arith, none))
numbers-none (Reads ack ∷ earlier) none = numbers-none earlier none

-- where no new number may be sent there is one
pub newest-counted : (reorder span : ℕ) (sent : List (Event (List Demand))) → may_send_new span (newest_of sent) (open_numbers reorder span sent) ≡ false → 1 ≤ newest_of sent
newest-counted reorder span sent closed = counted (newest_of sent) refl
  where
    counted : (n : ℕ) → newest_of sent ≡ n → 1 ≤ newest_of sent
    counted zero none =
        let free = ap (λ (xs : List (Unresolved (List Demand))). may_send_new span (newest_of sent) (left_in (decision_of reorder span sent) xs)) (numbers-none sent none) in
        absurd (false≢true (sym closed ∙ free))
    counted (suc n) some = omega (arith, some)

pub newest-content : (sent : List (Event (List Demand))) → 1 ≤ newest_of sent → content_of sent (newest_of sent) ≡ Some (unwrap_or (newest_content sent) [])
newest-content [] some = absurd (omega (arith, some))
newest-content (Sends demands ∷ earlier) some =
    ap (λ (b : Bool). cond b (Some demands) (content_of earlier (newest_of earlier + 1))) (eq-eqb (newest_of earlier + 1) (newest_of earlier + 1) refl)
newest-content (Reads ack ∷ earlier) some = newest-content earlier some

-- ---- what an acknowledgement shows

undecided-above : (reorder span : ℕ) (sent : List (Event (Unit {0}))) (number : ℕ) → newest_of sent < number → decision_of reorder span sent number ≡ None
undecided-above reorder span [] number above = refl
undecided-above reorder span (Sends content ∷ earlier) number above = undecided-above reorder span earlier number (omega (arith, above))
undecided-above reorder span (Reads ack ∷ earlier) number above =
    rw (undecided-above reorder span earlier number above) (read-above reorder span (newest_of earlier) ack number above)

greatest-last : (test : ℕ → Bool) (xs : List (Unresolved (Unit {0}))) (s : Unresolved (Unit {0})) → test s.number ≡ false → greatest_in test (xs ++ s ∷ []) ≡ greatest_in test xs
greatest-last test [] s fails = ap (λ (b : Bool). cond b (max s.number 0) 0) fails
greatest-last test (x ∷ xs) s fails = ap (λ (n : ℕ). cond (test x.number) (max x.number n) n) (greatest-last test xs s fails)

-- a new number is not acknowledged
pub greatest-sends : (reorder span : ℕ) (content : Unit {0}) (sent : List (Event (Unit {0}))) → greatest_acknowledged reorder span (Sends content ∷ sent) ≡ greatest_acknowledged reorder span sent
greatest-sends reorder span content sent =
    greatest-last (λ n. is_acknowledged (decision_of reorder span sent n)) (numbers_sent sent) (record { number = newest_of sent + 1; content = content })
    (ap is_acknowledged (undecided-above reorder span sent (newest_of sent + 1) (omega arith)))

-- what is shown is added to the greatest so far
later_max : (lost : Bool) (n so_far number : ℕ) → cond lost (max n so_far) (max (max n so_far) number) ≡ max n (cond lost so_far (max so_far number))
later_max true n so_far number = refl
later_max false n so_far number = omega arith

greatest_shown-max : (n so_far : ℕ) (decided : List (Decided (Unit {0}))) → greatest_shown (max n so_far) decided ≡ max n (greatest_shown so_far decided)
greatest_shown-max n so_far [] = refl
greatest_shown-max n so_far (d ∷ decided) =
    ap (λ (k : ℕ). greatest_shown k decided) (later_max d.lost n so_far d.number)
    ∙ greatest_shown-max n (cond d.lost so_far (max so_far d.number)) decided

greatest-shown : (before now : ℕ → Option Decision) (xs : List (Unresolved (Unit {0}))) →
    greatest_in (λ n. is_acknowledged (first_decision (before n) (now n))) xs
    ≡ greatest_shown (greatest_in (λ n. is_acknowledged (before n)) xs) (decided_in now (left_in before xs))
greatest-shown before now [] = refl
greatest-shown before now (s ∷ xs) =
    let rest = greatest-shown before now xs in
    one (before s.number) (now s.number) refl refl rest
  where
    one : (b n : Option Decision) → before s.number ≡ b → now s.number ≡ n →
        greatest_in (λ k. is_acknowledged (first_decision (before k) (now k))) xs ≡ greatest_shown (greatest_in (λ k. is_acknowledged (before k)) xs) (decided_in now (left_in before xs)) →
        greatest_in (λ k. is_acknowledged (first_decision (before k) (now k))) (s ∷ xs)
        ≡ greatest_shown (greatest_in (λ k. is_acknowledged (before k)) (s ∷ xs)) (decided_in now (left_in before (s ∷ xs)))
    one (Some Acknowledged) n was is rest = rw was (ap (λ (m : ℕ). max s.number m) rest ∙ sym (greatest_shown-max s.number (greatest_in (λ k. is_acknowledged (before k)) xs) (decided_in now (left_in before xs))))
    one (Some Lost) n was is rest = rw was rest
    one None None was is rest = rw (was, is) rest
    one None (Some Acknowledged) was is rest =
        let so_far = greatest_in (λ k. is_acknowledged (before k)) xs in
        let turned : max s.number so_far ≡ max so_far s.number = omega arith in
        rw (was, is) (ap (λ (m : ℕ). max s.number m) rest ∙ sym (greatest_shown-max s.number so_far (decided_in now (left_in before xs)))
        ∙ ap (λ (m : ℕ). greatest_shown m (decided_in now (left_in before xs))) turned)
    one None (Some Lost) was is rest = rw (was, is) rest

pub greatest-reads : (reorder span : ℕ) (sent : List (Event (Unit {0}))) (ack : Acknowledgement) →
    greatest_acknowledged reorder span (Reads ack ∷ sent) ≡ greatest_shown (greatest_acknowledged reorder span sent) (decided_by reorder span sent ack)
greatest-reads reorder span sent ack =
    greatest-shown (λ n. decision_of reorder span sent n) (λ n. decision_read reorder span (newest_of sent) ack n) (numbers_sent sent)
