-- Which of the numbers that were sent are decided, and by which acknowledgement. A history has its latest event first. From this project's own profile.
use Rattle.std.specs.Prelude.{◌≡◌, ℕ, ◌+◌, ◌≤◌, List, [], ◌∷◌, ◌++◌, Option, Some, None}
use Rattle.ack_window.specs.declared.send_window.Decided.{Decided}
use Rattle.ack_window.specs.declared.send_window.Unresolved.{Unresolved}
use Rattle.ack_window.specs.declared.acknowledgement.Acknowledgement.{Acknowledgement}
use Rattle.ack_window.specs.declared.acknowledgement.Decision.{Decision}
use Rattle.ack_window.specs.Acknowledgement.{decision_read}
use Rattle.ack_window.specs.Outstanding.{Outstanding, MaySendNew, decided_in, left_in}

-- what happens to a sender's numbers: the next number is sent with a content, or an acknowledgement is read
pub data Event (T : Type 0) : Type 0 where
  Sends : (content : T) → Event T
  Reads : (acknowledgement : Acknowledgement) → Event T

-- the earlier decision stands
abbrev pub first_decision : Option Decision → Option Decision → Option Decision
first_decision None later = later
first_decision (Some decision) later = Some decision

module _ {T : Type 0} where
  -- the newest number sent, 0 for none: numbers count from 1
  abbrev pub newest_of : List (Event T) → ℕ
  newest_of [] = 0
  newest_of (Sends content ∷ earlier) = newest_of earlier + 1
  newest_of (Reads ack ∷ earlier) = newest_of earlier

  -- the content of the newest number
  abbrev pub newest_content : List (Event T) → Option T
  newest_content [] = None
  newest_content (Sends content ∷ earlier) = Some content
  newest_content (Reads ack ∷ earlier) = newest_content earlier

  -- every number sent with its content, rising
  abbrev pub numbers_sent : List (Event T) → List (Unresolved T)
  numbers_sent [] = []
  numbers_sent (Sends content ∷ earlier) =
      numbers_sent earlier ++ record { number = newest_of earlier + 1; content = content } ∷ []
  numbers_sent (Reads ack ∷ earlier) = numbers_sent earlier

  -- the first acknowledgement read that decides a number decides it for good
  abbrev pub decision_of : ℕ → ℕ → List (Event T) → ℕ → Option Decision
  decision_of reorder span [] number = None
  decision_of reorder span (Sends content ∷ earlier) number = decision_of reorder span earlier number
  decision_of reorder span (Reads ack ∷ earlier) number =
      first_decision (decision_of reorder span earlier number) (decision_read reorder span (newest_of earlier) ack number)

  -- the number was sent, and no acknowledgement read has decided it
  pub record IsOpen (reorder span : ℕ) (history : List (Event T)) (number : ℕ) : Type 0 where
    pub counted : 1 ≤ number
    pub sent : number ≤ newest_of history
    pub undecided : decision_of reorder span history number ≡ None

  -- the open numbers with their contents, rising
  abbrev pub open_numbers : ℕ → ℕ → List (Event T) → List (Unresolved T)
  open_numbers reorder span history =
      left_in (decision_of reorder span history) (numbers_sent history)

  -- what is outstanding after a history
  abbrev pub outstanding_of : ℕ → ℕ → List (Event T) → Outstanding T
  outstanding_of reorder span history =
      record { newest = newest_of history; unresolved = open_numbers reorder span history }

  -- every number that an acknowledgement decides which is read after the history, rising
  abbrev pub decided_by : ℕ → ℕ → List (Event T) → Acknowledgement → List (Decided T)
  decided_by reorder span history ack =
      decided_in (decision_read reorder span (newest_of history) ack) (open_numbers reorder span history)

  -- each number was sent only where a new one might be sent
  abbrev pub SendsWithin : ℕ → ℕ → List (Event T) → Type 0
  SendsWithin reorder span [] = Unit {0}
  SendsWithin reorder span (Sends content ∷ earlier) =
      MaySendNew span (outstanding_of reorder span earlier) × SendsWithin reorder span earlier
  SendsWithin reorder span (Reads ack ∷ earlier) = SendsWithin reorder span earlier

  -- a window stands for the history of its calls
  pub record StandsForSends (reorder span : ℕ) (window : Outstanding T) (history : List (Event T)) : Type 0 where
    pub newest : window.newest ≡ newest_of history
    pub unresolved : window.unresolved ≡ open_numbers reorder span history
    pub allowed : SendsWithin reorder span history
