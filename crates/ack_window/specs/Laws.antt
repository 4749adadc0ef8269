-- What holds of both ends of a connection over whole histories, whatever is lost, delayed, repeated or overtaken. From this project's own profile.
use Rattle.std.specs.Prelude.{◌≡◌, ◌≢◌, ℕ, ◌+◌, ◌<◌, ◌≤◌, true, false, List, [], ◌∷◌, ◌++◌, Some, All, unwrap_or}
use Rattle.ack_window.specs.declared.take_window.Taken.TheVariants.{Fresh, Repeat, Old}
use Rattle.ack_window.specs.declared.acknowledgement.Acknowledgement.{Acknowledgement}
use Rattle.ack_window.specs.declared.acknowledgement.Decision.TheVariants.{Lost}
use Rattle.ack_window.specs.Acknowledgement.{Shows, FindsLost}
use Rattle.ack_window.specs.Arrivals.{highest, has_come, receive_verdict, is_fresh, is_number_taken, acknowledgement}
use Rattle.ack_window.specs.Ends.{Numbered, IsOfPart, content_of, Agree, IsOf, Happening, sender_of, receiver_of, IsDirection}
use Rattle.ack_window.specs.Outstanding.{MaySendNew, may_send_new}
use Rattle.ack_window.specs.Sends.{Event, Sends, Reads, newest_of, newest_content, numbers_sent, decision_of, open_numbers, outstanding_of, decided_by, IsOpen, SendsWithin}

-- ---- what arrives

-- the three verdicts on a number that arrives, each by its cause
pub record EachVerdictHasItsCause : Type 0 where
  pub old : (reorder : ℕ) (earlier : List ℕ) (number : ℕ) → number + reorder < highest earlier → receive_verdict reorder earlier number ≡ Old
  pub repeat : (reorder : ℕ) (earlier : List ℕ) (number : ℕ) → highest earlier ≤ number + reorder → has_come earlier number ≡ true → receive_verdict reorder earlier number ≡ Repeat
  pub fresh : (reorder : ℕ) (earlier : List ℕ) (number : ℕ) → highest earlier ≤ number + reorder → has_come earlier number ≡ false → receive_verdict reorder earlier number ≡ Fresh

-- what one more arrival changes of the numbers taken: a fresh number is taken then, for the first time, and nothing else changes
pub record EachIsTakenOnce : Type 0 where
  pub first : (reorder : ℕ) (earlier : List ℕ) (number : ℕ) → receive_verdict reorder earlier number ≡ Fresh → is_number_taken reorder earlier number ≡ false
  pub fresh : (reorder : ℕ) (earlier : List ℕ) (number : ℕ) → receive_verdict reorder earlier number ≡ Fresh → is_number_taken reorder (number ∷ earlier) number ≡ true
  pub stale : (reorder latest : ℕ) (earlier : List ℕ) (number : ℕ) → is_fresh (receive_verdict reorder earlier latest) ≡ false → is_number_taken reorder (latest ∷ earlier) number ≡ is_number_taken reorder earlier number
  pub other : (reorder latest : ℕ) (earlier : List ℕ) (number : ℕ) → latest ≢ number → is_number_taken reorder (latest ∷ earlier) number ≡ is_number_taken reorder earlier number

-- what is taken has come, and near the highest what has come was taken
pub record WhatIsTakenHasCome : Type 0 where
  pub come : (reorder : ℕ) (arrived : List ℕ) (number : ℕ) → is_number_taken reorder arrived number ≡ true → has_come arrived number ≡ true
  pub near : (reorder : ℕ) (arrived : List ℕ) (number : ℕ) → highest arrived ≤ number + reorder → is_number_taken reorder arrived number ≡ has_come arrived number
  pub above : (reorder : ℕ) (arrived : List ℕ) (number : ℕ) → highest arrived < number → is_number_taken reorder arrived number ≡ false

-- whatever arrives later, what was taken stays taken, and an old number that was not is never taken
pub record TakingIsForGood : Type 0 where
  pub grows : (later arrived : List ℕ) → highest arrived ≤ highest (later ++ arrived)
  pub taken : (reorder : ℕ) (later arrived : List ℕ) (number : ℕ) → is_number_taken reorder arrived number ≡ true → is_number_taken reorder (later ++ arrived) number ≡ true
  pub never : (reorder : ℕ) (later arrived : List ℕ) (number : ℕ) → number + reorder < highest arrived → is_number_taken reorder arrived number ≡ false → is_number_taken reorder (later ++ arrived) number ≡ false

-- ---- what an acknowledgement of arrivals says

-- a number that the acknowledgement of a receiver's arrivals shows was taken
abbrev pub ShownWasTaken : Type 0
ShownWasTaken =
    (reorder span : ℕ) (arrived : List ℕ) (number : ℕ) → 1 ≤ number →
    Shows span (acknowledgement reorder span arrived) number →
    is_number_taken reorder arrived number ≡ true

-- one that it finds lost, where its mask reaches that far, was not taken, and is never taken, whatever arrives later
abbrev pub LostIsNeverTaken : Type 0
LostIsNeverTaken =
    (reorder span : ℕ) (arrived later : List ℕ) (number : ℕ) → 1 ≤ number → highest arrived ≤ number + span →
    FindsLost reorder span (acknowledgement reorder span arrived) number →
    is_number_taken reorder (later ++ arrived) number ≡ false

-- and one that it neither shows nor finds lost is taken if it arrives next
abbrev pub UndecidedIsStillTaken : Type 0
UndecidedIsStillTaken =
    (reorder span : ℕ) (arrived : List ℕ) (number : ℕ) → 1 ≤ number → highest arrived ≤ number + span →
    ¬ Shows span (acknowledgement reorder span arrived) number →
    ¬ FindsLost reorder span (acknowledgement reorder span arrived) number →
    receive_verdict reorder arrived number ≡ Fresh

-- ---- what was sent

module _ (T : Type 0) where
  -- where each number is sent only if it may be, none is ever more than span above an open one: the mask of each
  -- acknowledgement that is not passed over reaches every open number
  abbrev pub OpenIsWithinSpan : Type 0
  OpenIsWithinSpan =
      (reorder span : ℕ) (history : List (Event T)) (number : ℕ) → SendsWithin reorder span history →
      IsOpen reorder span history number →
      newest_of history ≤ number + span

  -- a number has one content for good: it is sent with it, waits with it and is decided with it
  pub record EachNumberKeepsItsContent : Type 0 where
    pub later : (later history : List (Event T)) (number : ℕ) (content : T) → content_of history number ≡ Some content → content_of (later ++ history) number ≡ Some content
    pub sent : (history : List (Event T)) → All (λ s. content_of history s.number ≡ Some s.content) (numbers_sent history)
    pub waiting : (reorder span : ℕ) (history : List (Event T)) → All (λ s. content_of history s.number ≡ Some s.content) (open_numbers reorder span history)
    pub decided : (reorder span : ℕ) (history : List (Event T)) (ack : Acknowledgement) → All (λ d. content_of history d.number ≡ Some d.content) (decided_by reorder span history ack)

  -- where no new number may be sent there is a newest one, and its content is the newest
  pub record TheNewestGoesAgain : Type 0 where
    pub counted : (reorder span : ℕ) (history : List (Event T)) → may_send_new span (newest_of history) (open_numbers reorder span history) ≡ false → 1 ≤ newest_of history
    pub content : (history : List (Event T)) (other : T) → 1 ≤ newest_of history → content_of history (newest_of history) ≡ Some (unwrap_or (newest_content history) other)

  -- ---- both ends

  -- sender and receiver agree from the start, and go on to do so when a number is sent that may be, when a packet of the sender
  -- arrives, late or again, and when an acknowledgement of some earlier moment is read
  pub record AgreementIsKept : Type 0 where
    pub nothing : (reorder span : ℕ) → Agree {T = T} reorder span [] []
    pub sends : (reorder span : ℕ) (sent : List (Event T)) (arrived : List ℕ) (content : T) →
        Agree reorder span sent arrived → MaySendNew span (outstanding_of reorder span sent) → Agree reorder span (Sends content ∷ sent) arrived
    pub arrives : (reorder span : ℕ) (sent : List (Event T)) (arrived : List ℕ) (number : ℕ) →
        Agree reorder span sent arrived → number ≤ newest_of sent → Agree reorder span sent (number ∷ arrived)
    pub reads : (reorder span : ℕ) (sent : List (Event T)) (arrived : List ℕ) (ack : Acknowledgement) →
        Agree reorder span sent arrived → IsOfPart reorder span arrived ack → Agree reorder span (Reads ack ∷ sent) arrived

  -- so they agree at every moment, whatever happens
  abbrev pub TheEndsAgree : Type 0
  TheEndsAgree =
      (reorder span : ℕ) (happened : List (Happening T)) → IsDirection reorder span happened → Agree reorder span (sender_of happened) (receiver_of happened)

  -- a number that is found lost is never taken, whatever arrives later
  abbrev pub LostStaysUntaken : Type 0
  LostStaysUntaken =
      (reorder span : ℕ) (sent : List (Event T)) (arrived later : List ℕ) (number : ℕ) → Agree reorder span sent arrived → 1 ≤ number →
      decision_of reorder span sent number ≡ Some Lost →
      is_number_taken reorder (later ++ arrived) number ≡ false

  -- a packet stays its sender's, whatever happens at its sender after it was made
  pub record PacketsStayTheirSenders : Type 0 where
    pub arrives : (reorder span : ℕ) (sent : List (Event T)) (arrived : List ℕ) (number : ℕ) (packet : Numbered T) →
        IsOf reorder span sent arrived packet → IsOf reorder span sent (number ∷ arrived) packet
    pub reads : (reorder span : ℕ) (sent : List (Event T)) (arrived : List ℕ) (ack : Acknowledgement) (packet : Numbered T) →
        IsOf reorder span sent arrived packet → IsOf reorder span (Reads ack ∷ sent) arrived packet
    pub sends : (reorder span : ℕ) (sent : List (Event T)) (arrived : List ℕ) (content : T) (packet : Numbered T) →
        IsOf reorder span sent arrived packet → IsOf reorder span (Sends content ∷ sent) arrived packet
