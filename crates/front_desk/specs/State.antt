-- What contracts see of a desk and of its seats. From this project's own profile.
use Rattle.std.specs.Prelude.{◌≡◌, ◌≢◌, ℕ, ◌+◌, List, [], ◌∷◌, length, map}
use mathlib.Core.List.{IsPrefix}
use denote.RawPtr.{Ptr}
use Rattle.std.specs.declared.alloc.Global.{Global}
use Rattle.rtrb.specs.Shared.{Names}
use Rattle.rtrb.specs.declared.AnyItems.{AnyItems}
use Rattle.rtrb.specs.declared.producer.Producer.{Producer}
use Rattle.rtrb.specs.declared.consumer.Consumer.{Consumer}
use Rattle.front_desk.specs.declared.progress.Progress.{Progress}
use Rattle.front_desk.specs.declared.progress.Progress.TheVariants.{Open, Recorded}

-- which ring it is, seen from either end
pub record RingName : Type 0 where
  pub words : Ptr
  pub slots : Ptr
  pub names : Names
  pub heap : Global

abbrev pub ring_of_producer : Producer (List ℕ) Global AnyItems → RingName
ring_of_producer p = record { words = p.end.words; slots = p.end.slots; names = p.end.names; heap = p.end.heap }

abbrev pub ring_of_consumer : Consumer (List ℕ) Global AnyItems → RingName
ring_of_consumer c = record { words = c.end.words; slots = c.end.slots; names = c.end.names; heap = c.end.heap }

pub record SeatState : Type 0 where
  -- whose seat it is, with which ring, and how many packets that has room for
  pub endpoint : ℕ
  pub ring : RingName
  pub room : ℕ
  -- the packets put, the first one first
  pub put : List (List ℕ)

-- a desk is a list of lines, by rising endpoint
pub record LineState : Type 0 where
  -- its ring, and how many packets that has room for
  pub ring : RingName
  pub room : ℕ
  -- the slots in a batch and the rounds in a window of its lane
  pub b : ℕ
  pub g : ℕ
  -- the packets taken, the first one first, and how far it has come
  pub taken : List (List ℕ)
  pub progress : Progress

-- a seat and a line are of one ring
pub record IsSeatOf (seat : SeatState) (line : LineState) : Type 0 where
  pub ring : seat.ring ≡ line.ring
  pub room : seat.room ≡ line.room

-- a line into which nothing was put, and the seat of an endpoint with it
abbrev pub opened_line : ℕ → ℕ → ℕ → RingName → LineState
opened_line room b g ring = record { ring = ring; room = room; b = b; g = g; taken = []; progress = Open }

abbrev pub opened_seat : ℕ → ℕ → RingName → SeatState
opened_seat room endpoint ring = record { endpoint = endpoint; ring = ring; room = room; put = [] }

-- seats by rising endpoint, from this one on
abbrev pub opened_seats : ℕ → ℕ → List RingName → List SeatState
opened_seats room endpoint [] = []
opened_seats room endpoint (ring ∷ rings) = opened_seat room endpoint ring ∷ opened_seats room (endpoint + 1) rings

-- a desk with a line for each endpoint, and their seats: each line has a ring with its seat
pub record AreOpened (endpoints b g room : ℕ) (desk : List LineState) (seats : List SeatState) : Type 0 where
  pub rings : List RingName
  pub each : length rings ≡ endpoints
  pub lines : desk ≡ map (opened_line room b g) rings
  pub seats_are : seats ≡ opened_seats room 0 rings

-- more packets may have been taken of an open line; of any other none were
pub record MayTakeMore (old new : LineState) : Type 0 where
  pub frame : new ≡ record old { taken = new.taken }
  pub more : IsPrefix old.taken new.taken
  pub open_only : old.progress ≢ Open → new.taken ≡ old.taken

-- so it went with each line
abbrev pub HavePolled : List LineState → List LineState → Type 0
HavePolled [] [] = Unit {0}
HavePolled (old ∷ olds) (new ∷ news) = MayTakeMore old new × HavePolled olds news
HavePolled [] (new ∷ news) = ⊥
HavePolled (old ∷ olds) [] = ⊥

-- a line whose entries are recorded
abbrev pub recorded_line : LineState → LineState
recorded_line line = record line { progress = Recorded }
