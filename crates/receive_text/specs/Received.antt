-- A desk that received the packets of a trace; from this project's own profile.
use Rattle.std.specs.Prelude.{◌≡◌, ℕ, ◌<◌, ◌≤◌, List, length, All, slice_index_or}
use Rattle.clos_topology.specs.Network.{endpoints_of}
use Rattle.trace_text.specs.Trace.{TraceContent, puts_at}
use Rattle.front_desk.specs.State.{LineState}
use Rattle.receive_text.specs.ReceiveText.{window_rounds}
use Rattle.receive_text.specs.Putting.{MayAllPut, AreAllSeated}
use Rattle.receive_text.specs.declared.filling.Filling.{Filling}

-- its lanes have windows of so many rounds
abbrev pub HasWindows : List LineState → Type 0
HasWindows = All (λ (line : LineState). line.g ≡ window_rounds)

-- a desk for the endpoints of a trace with its seats, before anything is put
pub record IsOpenFor (trace : TraceContent) (desk : List LineState) (fillings : List Filling) : Type 0 where
  pub endpoints : length desk ≡ endpoints_of trace.net
  pub windows : HasWindows desk
  pub seats : AreAllSeated desk fillings
  pub may_put : MayAllPut trace fillings

-- each lane was given all packets of its endpoint, in their order
pub record HasReceived (trace : TraceContent) (desk : List LineState) : Type 0 where
  pub endpoints : length desk ≡ endpoints_of trace.net
  pub taken : (endpoint : ℕ) (d : LineState) → endpoint < length desk → (slice_index_or desk endpoint d).taken ≡ puts_at trace endpoint
  pub windows : HasWindows desk

-- there is room for the packets of any endpoint
pub record IsRoomFor (trace : TraceContent) (room : ℕ) : Type 0 where
  pub some : 1 ≤ room
  pub most : room ≤ 1024
  pub all : (endpoint : ℕ) → endpoint < endpoints_of trace.net → length (puts_at trace endpoint) ≤ room
