-- What clauses see of the two windows, and the calls that they stand for. From this project's own profile.
use Rattle.std.specs.Prelude.{ℕ, List}
use Rattle.ack_window.specs.declared.acknowledgement.Acknowledgement.{Acknowledgement}
use Rattle.ack_window.specs.Arrivals.{StandsForArrivals}
use Rattle.ack_window.specs.Outstanding.{Outstanding, MaySendNew}
use Rattle.ack_window.specs.Sends.{Event, StandsForSends}
use Rattle.ack_window.specs.Versions.{reorder_of, span_of}

-- the receiver's side: its version, and the acknowledgement of all that arrived
pub record Receiver : Type 0 where
  pub version : ℕ
  pub told : Acknowledgement

-- the sender's side: its version, and what is outstanding of the numbers that it sent
pub record Sender (T : Type 0) : Type 0 where
  pub version : ℕ
  pub outstanding : Outstanding T

-- a receiver is what these arrivals make it, by the limits of its version
abbrev pub HasHeard : Receiver → List ℕ → Type 0
HasHeard window arrived = StandsForArrivals (reorder_of window.version) (span_of window.version) window.told arrived

-- a sender is what this history makes it, by the limits of its version
abbrev pub HasDone : {T : Type 0} → Sender T → List (Event T) → Type 0
HasDone window history = StandsForSends (reorder_of window.version) (span_of window.version) window.outstanding history

-- a sender may send a new number
abbrev pub MaySend : {T : Type 0} → Sender T → Type 0
MaySend window = MaySendNew (span_of window.version) window.outstanding
