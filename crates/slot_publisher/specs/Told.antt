-- What an endpoint is told of a batch (this project's own profile): each of its slots, by its offset in the batch, with the
-- destination and the core, 255 where there is none.
use Rattle.std.specs.Prelude.{◌≡◌, ◌≢◌, ◌<◌, ◌≤◌, ℕ, ◌+◌, ◌==◌, List, [], ◌∷◌, Option, Some, None, length, map, find, option_map, unwrap_or, slice_index_or, All, Contains}
use Rattle.std.specs.List.Sorted.{IsStrictlyIncreasing}
use Rattle.fcp_framing.specs.declared.packet.Told.{Told}
use Rattle.fcp_framing.specs.Spelling.{IsCore}
use Rattle.slot_publisher.specs.Window.{RoutedFlow, PublisherWindow, slots_of_batch}

-- the packet that the endpoint sends in a slot, if it sends one
abbrev pub packet_sent : ℕ → List RoutedFlow → Option RoutedFlow
packet_sent endpoint slot = find (λ packet. packet.flow.src == endpoint) slot

abbrev pub told_as : ℕ → RoutedFlow → Told
told_as offset packet = record { offset = offset; core = unwrap_or packet.core 255; dst = packet.flow.dst }

-- what is told of an endpoint's packets, slot after slot, of which the first has this offset
abbrev pub told_from : ℕ → List (Option RoutedFlow) → List Told
told_from offset [] = []
told_from offset (None ∷ packets) = told_from (offset + 1) packets
told_from offset (Some packet ∷ packets) = told_as offset packet ∷ told_from (offset + 1) packets

abbrev pub slots_told : PublisherWindow → ℕ → ℕ → List Told
slots_told window endpoint batch = told_from 0 (map (packet_sent endpoint) (slots_of_batch window batch))

-- in the slot at its offset, the endpoint sends just what it says
abbrev pub IsToldOf : List (List RoutedFlow) → ℕ → Told → Type 0
IsToldOf slots endpoint told = option_map (told_as told.offset) (packet_sent endpoint (slice_index_or slots told.offset [])) ≡ Some told

-- what an endpoint is told of a batch that is held: exactly its slots of the batch
pub record AreToldOf (window : PublisherWindow) (endpoint batch : ℕ) (list : List Told) : Type 0 where
  -- its packets of the batch, slot after slot
  pub told : list ≡ slots_told window endpoint batch
  -- at most so many as a batch may have slots
  pub most : length list ≤ 64
  -- each says what the endpoint sends in a slot
  pub only : All (IsToldOf (slots_of_batch window batch) endpoint) list
  -- and what it sends in a slot of the batch is told
  pub all : (one : Told) → one.offset < window.b → IsToldOf (slots_of_batch window batch) endpoint one → Contains list one
  -- in the order of slots
  pub rising : IsStrictlyIncreasing (map (λ one. one.offset) list)
  -- each is within the batch, to an endpoint of the net, by a core or by none
  pub offsets : All (λ one. one.offset < window.b) list
  pub destinations : All (λ one. one.dst < window.endpoints) list
  pub cores : All (λ one. IsCore one.core) list
  -- none is to the endpoint itself, where no packet of the window is to its source
  pub others : All (All (λ packet. packet.flow.src ≢ packet.flow.dst)) window.slots → All (λ one. one.dst ≢ endpoint) list
