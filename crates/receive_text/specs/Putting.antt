-- The seats of a desk while packets are put; from this project's own profile.
use Rattle.std.specs.Prelude.{◌≡◌, ℕ, ◌+◌, ◌<◌, ◌≤◌, List, [], length, true, All, slice_index_or}
use Rattle.clos_topology.specs.Network.{endpoints_of}
use Rattle.trace_text.specs.Trace.{TraceContent, puts_at}
use Rattle.front_desk.specs.declared.progress.Progress.TheVariants.{Open}
use Rattle.front_desk.specs.State.{SeatState, LineState, IsSeatOf}
use Rattle.receive_text.specs.declared.filling.Filling.{Filling}

-- the seat of an endpoint of the trace, into which nothing was put, has room for its packets
pub record MayPut (trace : TraceContent) (seat : SeatState) : Type 0 where
  pub endpoint : seat.endpoint < endpoints_of trace.net
  pub none : seat.put ≡ []
  pub room : length (puts_at trace seat.endpoint) ≤ seat.room

-- the seat with all packets of its endpoint put, in their order
abbrev pub with_all : TraceContent → SeatState → SeatState
with_all trace seat = record seat { put = puts_at trace seat.endpoint }

-- a seat was filled so, where there was memory for all
abbrev pub HasFilled : TraceContent → Filling → Filling → Type 0
HasFilled trace old new = new.enough ≡ true → new.seat ≡ with_all trace old.seat

-- so it went with each
abbrev pub HaveFilled : TraceContent → List Filling → List Filling → Type 0
HaveFilled trace old new = (length new ≡ length old) × ((place : ℕ) (d : Filling) → place < length old → HasFilled trace (slice_index_or old place d) (slice_index_or new place d))

abbrev pub MayAllPut : TraceContent → List Filling → Type 0
MayAllPut trace = All (λ (filling : Filling). MayPut trace filling.seat)

-- a seat of this desk, at its place among all, which stand by falling endpoint: its line is open
pub record IsSeated (desk : List LineState) (place : ℕ) (seat : SeatState) : Type 0 where
  pub endpoint : seat.endpoint + place + 1 ≡ length desk
  pub line : (d : LineState) → IsSeatOf seat (slice_index_or desk seat.endpoint d)
  pub is_open : (d : LineState) → (slice_index_or desk seat.endpoint d).progress ≡ Open

abbrev pub AreSeated : List LineState → List Filling → Type 0
AreSeated desk fillings = (place : ℕ) (d : Filling) → place < length fillings → IsSeated desk place (slice_index_or fillings place d).seat

-- the seats of all endpoints
pub record AreAllSeated (desk : List LineState) (fillings : List Filling) : Type 0 where
  pub each : length fillings ≡ length desk
  pub seated : AreSeated desk fillings
