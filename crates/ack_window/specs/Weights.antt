-- Sums of a weight of contents over the numbers sent, and what a send and a reading change of them. From this project's own profile.
use Rattle.std.specs.Prelude.{◌≡◌, ◌≢◌, ℕ, ◌+◌, ◌≤◌, Bool, true, false, List, [], ◌∷◌, sum_by, Some, if◌then◌else◌}
use Rattle.ack_window.specs.declared.send_window.Decided.{Decided}
use Rattle.ack_window.specs.declared.acknowledgement.Acknowledgement.{Acknowledgement}
use Rattle.ack_window.specs.Acknowledgement.{is_acknowledged, is_found_lost}
use Rattle.ack_window.specs.Ends.{content_of}
use Rattle.ack_window.specs.Sends.{Event, Sends, Reads, newest_of, numbers_sent, decision_of, open_numbers, decided_by}

module _ {T : Type 0} where
  -- the weight of the contents of those numbers sent for which a test holds
  abbrev pub weight_in : (T → ℕ) → (ℕ → Bool) → List (Event T) → ℕ
  weight_in weight test history = sum_by (λ s. if test s.number then weight s.content else 0) (numbers_sent history)

  -- the weight of what a reading finds lost, and of what it acknowledges
  abbrev pub weight_lost : (T → ℕ) → List (Decided T) → ℕ
  weight_lost weight decided = sum_by (λ d. if d.lost then weight d.content else 0) decided

  abbrev pub weight_shown : (T → ℕ) → List (Decided T) → ℕ
  weight_shown weight decided = sum_by (λ d. if d.lost then 0 else weight d.content) decided

module _ (T : Type 0) where
  -- every number sent is open, acknowledged or lost, and only one of these
  pub record EachNumberIsOneOfThree : Type 0 where
    pub parts : (weight : T → ℕ) (reorder span : ℕ) (history : List (Event T)) →
        weight_in weight (λ n. true) history
        ≡ sum_by (λ s. weight s.content) (open_numbers reorder span history)
        + weight_in weight (λ n. is_acknowledged (decision_of reorder span history n)) history
        + weight_in weight (λ n. is_found_lost (decision_of reorder span history n)) history

  -- a reading moves exactly what it decides: from the open numbers to those acknowledged or lost
  pub record AReadingMovesWhatItDecides : Type 0 where
    pub shown : (weight : T → ℕ) (reorder span : ℕ) (history : List (Event T)) (ack : Acknowledgement) →
        weight_in weight (λ n. is_acknowledged (decision_of reorder span (Reads ack ∷ history) n)) (Reads ack ∷ history)
        ≡ weight_in weight (λ n. is_acknowledged (decision_of reorder span history n)) history + weight_shown weight (decided_by reorder span history ack)
    pub lost : (weight : T → ℕ) (reorder span : ℕ) (history : List (Event T)) (ack : Acknowledgement) →
        weight_in weight (λ n. is_found_lost (decision_of reorder span (Reads ack ∷ history) n)) (Reads ack ∷ history)
        ≡ weight_in weight (λ n. is_found_lost (decision_of reorder span history n)) history + weight_lost weight (decided_by reorder span history ack)
    pub waiting : (weight : T → ℕ) (reorder span : ℕ) (history : List (Event T)) (ack : Acknowledgement) →
        sum_by (λ s. weight s.content) (open_numbers reorder span history)
        ≡ sum_by (λ s. weight s.content) (open_numbers reorder span (Reads ack ∷ history)) + sum_by (λ d. weight d.content) (decided_by reorder span history ack)

  -- such sums, event by event and test by test
  pub record WeightsAddUp : Type 0 where
    pub nothing : (weight : T → ℕ) (test : ℕ → Bool) → weight_in weight test [] ≡ 0
    pub reads : (weight : T → ℕ) (test : ℕ → Bool) (ack : Acknowledgement) (history : List (Event T)) → weight_in weight test (Reads ack ∷ history) ≡ weight_in weight test history
    pub sends : (weight : T → ℕ) (test : ℕ → Bool) (content : T) (history : List (Event T)) →
        weight_in weight test (Sends content ∷ history) ≡ weight_in weight test history + (if test (newest_of history + 1) then weight content else 0)
    -- tests that say the same of every number sent
    pub same : (weight : T → ℕ) (t u : ℕ → Bool) (history : List (Event T)) → ((n : ℕ) → 1 ≤ n → n ≤ newest_of history → t n ≡ u n) → weight_in weight t history ≡ weight_in weight u history
    -- a test that holds of more numbers
    pub more : (weight : T → ℕ) (t u : ℕ → Bool) (history : List (Event T)) → ((n : ℕ) → t n ≡ true → u n ≡ true) → weight_in weight t history ≤ weight_in weight u history
    -- of one number more
    pub one : (weight : T → ℕ) (t u : ℕ → Bool) (history : List (Event T)) (number : ℕ) (content : T) → content_of history number ≡ Some content →
        t number ≡ false → u number ≡ true → ((n : ℕ) → n ≢ number → t n ≡ u n) →
        weight_in weight u history ≡ weight_in weight t history + weight content
    -- tests of which no number meets both
    pub apart : (weight : T → ℕ) (t u : ℕ → Bool) (history : List (Event T)) → ((n : ℕ) → 1 ≤ n → u n ≡ true → t n ≡ false) →
        weight_in weight t history + weight_in weight u history ≤ weight_in weight (λ n. true) history
