-- Edges as lists: what each holds, and the positions on it (this project's own profile).
use Rattle.std.specs.Prelude.{◌≡◌, ◌≢◌, ◌<◌, ◌≤◌, ℕ, zero, suc, ◌+◌, ◌^◌, List, [], ◌∷◌, ◌++◌, length, Option, Some, None, slice_get}
use Rattle.slot_batches.specs.Pieces.{Part}
use Rattle.ring_core.specs.States.{EdgeState}
use Rattle.ring_core.specs.Windows.{Window}
use Rattle.ring_core.specs.Streams.{EdgeInto, edge_stream}
use Rattle.ring_core.specs.Ends.{WorkerEnds}

-- the part of a list from one place up to another
abbrev pub between : {A : Type 0} → ℕ → ℕ → List A → List A
between zero zero xs = []
between zero (suc sent) [] = []
between zero (suc sent) (x ∷ xs) = x ∷ between zero sent xs
between (suc taken) zero xs = []
between (suc taken) (suc sent) [] = []
between (suc taken) (suc sent) (x ∷ xs) = between taken sent xs

-- the edge holds exactly the pieces of its stream that were sent and not yet taken
pub record Holds (into : EdgeInto) (edge : EdgeState) : Type 0 where
  pub order : edge.taken ≤ edge.sent
  pub within : edge.sent ≤ length (edge_stream into)
  pub pieces : edge.pieces ≡ between edge.taken edge.sent (edge_stream into)

-- a piece was sent behind the others
pub record IsOneSent (part : Part) (old new : EdgeState) : Type 0 where
  pub pieces : new.pieces ≡ old.pieces ++ part ∷ []
  pub taken : new.taken ≡ old.taken
  pub sent : new.sent ≡ old.sent + 1
  pub room : new.room ≡ old.room

-- so does each of a window's edges; edge k is the one into worker k
pub record AllHold (window : Window) (edges : List EdgeState) : Type 0 where
  pub each : (number : ℕ) (edge : EdgeState) → slice_get edges number ≡ Some edge → Holds (record { window = window; worker = number }) edge

-- the positions on an edge, and its room
abbrev pub taken_of : Option EdgeState → ℕ
taken_of None = 0
taken_of (Some edge) = edge.taken

abbrev pub sent_on_edge : Option EdgeState → ℕ
sent_on_edge None = 0
sent_on_edge (Some edge) = edge.sent

abbrev pub room_of : Option EdgeState → ℕ
room_of None = 0
room_of (Some edge) = edge.room

abbrev pub taken_at : List EdgeState → ℕ → ℕ
taken_at edges number = taken_of (slice_get edges number)

abbrev pub sent_at : List EdgeState → ℕ → ℕ
sent_at edges number = sent_on_edge (slice_get edges number)

abbrev pub room_at : List EdgeState → ℕ → ℕ
room_at edges number = room_of (slice_get edges number)

-- the two ends of a worker that pops from one of the edges and pushes to another
abbrev pub ends_between : Window → List EdgeState → ℕ → ℕ → WorkerEnds
ends_between window edges before after =
    record {
      before = record { window = window; worker = before };
      after = record { window = window; worker = after };
      taken = taken_at edges before;
      sent = sent_at edges after;
    }

-- no stream has more pieces than a position can count
abbrev pub StreamsAreShort : Window → Type 0
StreamsAreShort window = (worker : ℕ) → length (edge_stream (record { window = window; worker = worker })) + 1 < 2 ^ 32

-- but for what is taken from the one and sent into the other the edges are as they were
pub record OthersStay (before after : ℕ) (old new : List EdgeState) : Type 0 where
  pub count : length new ≡ length old
  pub taken : (number : ℕ) → number ≢ before → taken_at new number ≡ taken_at old number
  pub sent : (number : ℕ) → number ≢ after → sent_at new number ≡ sent_at old number
  pub rooms : (number : ℕ) → room_at new number ≡ room_at old number

-- all that was sent was taken
abbrev pub IsFoundEmpty : List EdgeState → ℕ → ℕ → Type 0
IsFoundEmpty edges number at = (sent_at edges number ≡ at) × (taken_at edges number ≡ at)

-- there is no room for another
abbrev pub IsFoundFull : List EdgeState → ℕ → ℕ → Type 0
IsFoundFull edges number at = (sent_at edges number ≡ at) × (taken_at edges number + room_at edges number ≡ at)
