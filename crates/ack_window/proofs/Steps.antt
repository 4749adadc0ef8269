-- What holds of a sender goes on by its steps.
use Rattle.std.proofs.Common.{◌≡◌, ℕ, zero, suc, ◌+◌, ◌-◌, ◌<◌, ◌≤◌, true, List, [], ◌∷◌, length, get_or, sym, ◌∙◌, ap, refl, arith}
use Rattle.std.specs.List.{All}
use Rattle.std.proofs.lemmas.List.Elements.{All-nil, All-cons}
use Rattle.ack_window.specs.declared.send_window.Unresolved.{Unresolved}
use Rattle.ack_window.specs.declared.acknowledgement.Acknowledgement.{Acknowledgement}
use Rattle.ack_window.specs.Acknowledgement.{decision_by, decision_read}
use Rattle.ack_window.specs.Kept.{RisesWithin}
use Rattle.ack_window.specs.Outstanding.{may_send_new, decided_in, left_in}
use Rattle.ack_window.specs.Sends.{Event, Reads, newest_of, decided_by}
use Rattle.ack_window.specs.Steps.{after_reading, decided_for, SendersGoOnByStep}
use Rattle.ack_window.specs.Versions.{reorder_of, span_of}
use Rattle.ack_window.specs.Windows.{Sender, HasDone}
use Rattle.ack_window.proofs.Sending.{StandsForSends-send, open_numbers-Reads, newest_content-at, within_span, left_in-same, left_in-none, decided_in-same, decided_in-none, decision_read-read, decision_read-passed}

-- ---- what a history goes on by

reads : {T : Type 0} (window : Sender T) (ack : Acknowledgement) (history : List (Event T)) → HasDone window history → HasDone (after_reading window ack) (Reads ack ∷ history)
reads window ack history done =
    let reorder = reorder_of window.version in
    let span = span_of window.version in
    record {
      newest = done.newest;
      allowed = done.allowed;
      unresolved =
          ap (λ n. left_in (decision_read reorder span n ack) window.outstanding.unresolved) done.newest
          ∙ (ap (λ xs. left_in (decision_read reorder span (newest_of history) ack) xs) done.unresolved
          ∙ sym (open_numbers-Reads reorder span ack history));
    }

decided : {T : Type 0} (window : Sender T) (ack : Acknowledgement) (history : List (Event T)) → HasDone window history → decided_by (reorder_of window.version) (span_of window.version) history ack ≡ decided_for window ack
decided window ack history done =
    let reorder = reorder_of window.version in
    let span = span_of window.version in
    sym (ap (λ n. decided_in (decision_read reorder span n ack) window.outstanding.unresolved) done.newest
    ∙ ap (λ xs. decided_in (decision_read reorder span (newest_of history) ack) xs) done.unresolved)

pub senders_go_on_by_step : (T : Type 0) → SendersGoOnByStep T
senders_go_on_by_step T = record {
  sends = λ window content history done may. StandsForSends-send (reorder_of window.version) (span_of window.version) window.outstanding content history done may;
  reads = reads;
  decided = decided;
  newest = λ window history done k d within is.
      newest_content-at (reorder_of window.version) (span_of window.version) window.outstanding history done k (get_or window.outstanding.unresolved k d) within (get_or-any window.outstanding.unresolved k d (get_or window.outstanding.unresolved k d) within) is;
}
  where
    get_or-any : {X : Type 0} (xs : List X) (k : ℕ) (d e : X) → k < length xs → get_or xs k d ≡ get_or xs k e
    get_or-any [] k d e within = absurd (omega (arith, within))
    get_or-any (x ∷ xs) zero d e within = refl
    get_or-any (x ∷ xs) (suc k) d e within = get_or-any xs k d e (omega (arith, within))

-- ---- what the calls of a window make of it

pub left-read : {T : Type 0} (window : Sender T) (ack : Acknowledgement) → ack.high ≤ window.outstanding.newest →
    left_in (decision_by (reorder_of window.version) (span_of window.version) ack) window.outstanding.unresolved ≡ (after_reading window ack).outstanding.unresolved
left-read window ack read =
    left_in-same (decision_by (reorder_of window.version) (span_of window.version) ack) (decision_read (reorder_of window.version) (span_of window.version) window.outstanding.newest ack)
    (decision_read-read (reorder_of window.version) (span_of window.version) window.outstanding.newest ack read) window.outstanding.unresolved

pub found-read : {T : Type 0} (window : Sender T) (ack : Acknowledgement) → ack.high ≤ window.outstanding.newest →
    decided_in (decision_by (reorder_of window.version) (span_of window.version) ack) window.outstanding.unresolved ≡ decided_for window ack
found-read window ack read =
    decided_in-same (decision_by (reorder_of window.version) (span_of window.version) ack) (decision_read (reorder_of window.version) (span_of window.version) window.outstanding.newest ack)
    (decision_read-read (reorder_of window.version) (span_of window.version) window.outstanding.newest ack read) window.outstanding.unresolved

-- one that is passed over changes and decides nothing
pub left-passed : {T : Type 0} (window : Sender T) (ack : Acknowledgement) → window.outstanding.newest < ack.high → window ≡ after_reading window ack
left-passed {T} window ack passed =
    ap {A = List (Unresolved T)} (λ xs. record { version = window.version; outstanding = record { newest = window.outstanding.newest; unresolved = xs } })
    (sym (left_in-none (decision_read (reorder_of window.version) (span_of window.version) window.outstanding.newest ack) (decision_read-passed (reorder_of window.version) (span_of window.version) window.outstanding.newest ack passed) window.outstanding.unresolved))

pub found-passed : {T : Type 0} (window : Sender T) (ack : Acknowledgement) → window.outstanding.newest < ack.high → decided_for window ack ≡ []
found-passed window ack passed =
    decided_in-none (decision_read (reorder_of window.version) (span_of window.version) window.outstanding.newest ack) (decision_read-passed (reorder_of window.version) (span_of window.version) window.outstanding.newest ack passed) window.outstanding.unresolved

-- where a new number may be sent, the unresolved ones are near it
pub rising-near : {T : Type 0} (low number : ℕ) (xs : List (Unresolved T)) → RisesWithin low number xs → All (λ s. (s.number < number + 1) × (low ≤ s.number)) xs
rising-near low number [] rises = All-nil _
rising-near low number (s ∷ rest) rises =
    All-cons (λ s. (s.number < number + 1) × (low ≤ s.number)) s rest (let last = rises.1 in omega (arith, last), rises.0)
    (λ k d within. let after = rising-near (s.number + 1) number rest rises.2 k d within in let first = rises.0 in (after.0, let low' = after.1 in omega (arith, low', first)))

pub near-new : {T : Type 0} (span newest : ℕ) (xs : List (Unresolved T)) → span ≤ 128 → may_send_new span newest xs ≡ true → RisesWithin (newest - span) newest xs →
    All (λ s. (s.number < newest + 1) × (newest + 1 ≤ s.number + 128)) xs
near-new span newest xs most may rises k d within =
    let near = rising-near (newest + 1 - span) newest xs (within_span span newest xs may rises) k d within in
    (near.0, let low = near.1 in omega (arith, low, most))
