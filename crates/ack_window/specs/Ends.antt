-- One direction of a connection: what its sender's numbers and the arrivals at the other end have to do with each other. From this project's own profile.
use Rattle.std.specs.Prelude.{◌≡◌, ℕ, ◌+◌, ◌<◌, ◌≤◌, ◌==◌, true, false, List, [], ◌∷◌, ◌++◌, Option, Some, None, if◌then◌else◌}
use Rattle.ack_window.specs.declared.acknowledgement.Acknowledgement.{Acknowledgement}
use Rattle.ack_window.specs.declared.acknowledgement.Decision.TheVariants.{Acknowledged, Lost}
use Rattle.ack_window.specs.Arrivals.{highest, is_number_taken, acknowledgement}
use Rattle.ack_window.specs.Outstanding.{MaySendNew}
use Rattle.ack_window.specs.Sends.{Event, Sends, Reads, newest_of, decision_of, outstanding_of, SendsWithin}

-- a packet with a number: where it belongs, what its sender has taken, and its content, which goes with the number
pub record Numbered (T : Type 0) : Type 0 where
  pub epoch : ℕ
  pub version : ℕ
  pub seq : ℕ
  pub ack : Acknowledgement
  pub content : T

-- an acknowledgement of a first part of these arrivals
pub record IsOfPart (reorder span : ℕ) (arrived : List ℕ) (ack : Acknowledgement) : Type 0 where
  pub later : List ℕ
  pub earlier : List ℕ
  pub parts : later ++ earlier ≡ arrived
  pub told : ack ≡ acknowledgement reorder span earlier

module _ {T : Type 0} where
  -- the content that went with a number
  abbrev pub content_of : List (Event T) → ℕ → Option T
  content_of [] number = None
  content_of (Sends content ∷ earlier) number = if number == newest_of earlier + 1 then Some content else content_of earlier number
  content_of (Reads ack ∷ earlier) number = content_of earlier number

  -- what holds of a sender's numbers and of all that arrived, at every moment: each number was sent only where it might be, none
  -- arrived that was not sent, one that is acknowledged was taken, and one that is found lost was not and never will be
  pub record Agree (reorder span : ℕ) (sent : List (Event T)) (arrived : List ℕ) : Type 0 where
    pub within : SendsWithin reorder span sent
    pub none_above : highest arrived ≤ newest_of sent
    pub shown : (number : ℕ) → 1 ≤ number → decision_of reorder span sent number ≡ Some Acknowledged → is_number_taken reorder arrived number ≡ true
    pub lost : (number : ℕ) → 1 ≤ number → decision_of reorder span sent number ≡ Some Lost → is_number_taken reorder arrived number ≡ false
    pub for_good : (number : ℕ) → 1 ≤ number → decision_of reorder span sent number ≡ Some Lost → number + reorder < highest arrived

  -- a packet of an end that has sent these numbers, and at which these arrived
  pub record IsOf (reorder span : ℕ) (sent : List (Event T)) (arrived : List ℕ) (packet : Numbered T) : Type 0 where
    pub counted : 1 ≤ packet.seq
    pub known : packet.seq ≤ newest_of sent
    pub content : content_of sent packet.seq ≡ Some packet.content
    pub reads : IsOfPart reorder span arrived packet.ack

-- what happens in one direction: a number is sent, one arrives at the other end, or an acknowledgement comes back and is read
pub data Happening (T : Type 0) : Type 0 where
  IsSent : (content : T) → Happening T
  Arrives : (number : ℕ) → Happening T
  IsRead : (ack : Acknowledgement) → Happening T

module _ {T : Type 0} where
  -- the sender's part, and the receiver's, the latest first
  abbrev pub sender_of : List (Happening T) → List (Event T)
  sender_of [] = []
  sender_of (IsSent content ∷ earlier) = Sends content ∷ sender_of earlier
  sender_of (Arrives number ∷ earlier) = sender_of earlier
  sender_of (IsRead ack ∷ earlier) = Reads ack ∷ sender_of earlier

  abbrev pub receiver_of : List (Happening T) → List ℕ
  receiver_of [] = []
  receiver_of (IsSent content ∷ earlier) = receiver_of earlier
  receiver_of (Arrives number ∷ earlier) = number ∷ receiver_of earlier
  receiver_of (IsRead ack ∷ earlier) = receiver_of earlier

  -- a number is sent only where it may be, only what was sent arrives, and an acknowledgement is one of the receiver, of then or before
  abbrev pub IsDirection : ℕ → ℕ → List (Happening T) → Type 0
  IsDirection reorder span [] = Unit {0}
  IsDirection reorder span (IsSent content ∷ earlier) =
      MaySendNew span (outstanding_of reorder span (sender_of earlier)) × IsDirection reorder span earlier
  IsDirection reorder span (Arrives number ∷ earlier) = (number ≤ newest_of (sender_of earlier)) × IsDirection reorder span earlier
  IsDirection reorder span (IsRead ack ∷ earlier) = IsOfPart reorder span (receiver_of earlier) ack × IsDirection reorder span earlier
