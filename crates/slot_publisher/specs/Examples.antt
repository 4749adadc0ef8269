-- What is told_of_slot of a small window in full.
use Rattle.std.specs.Prelude.{◌≡◌, ℕ, [], ◌∷◌, Option, Some, None}
use Rattle.fcp_framing.specs.declared.packet.Told.{Told}
use Rattle.slot_publisher.specs.Window.{RoutedFlow, PublisherWindow}
use Rattle.slot_publisher.specs.Told.{slots_told}

abbrev pub packet : ℕ → ℕ → Option ℕ → RoutedFlow
packet src dst core = record { flow = record { src = src; dst = dst }; core = core }

-- batches 8 and 9, of two slots each; endpoints 0 and 1 share a rack
abbrev pub a_window : PublisherWindow
a_window = record {
  endpoints = 4;
  batches = 3;
  b = 2;
  first_batch = 8;
  count = 2;
  slots = (packet 0 1 None ∷ packet 1 2 (Some 3) ∷ []) ∷ (packet 0 3 (Some 1) ∷ []) ∷ (packet 2 0 (Some 0) ∷ []) ∷ (packet 0 2 (Some 2) ∷ []) ∷ [];
}

abbrev pub told_of_slot : ℕ → ℕ → ℕ → Told
told_of_slot offset core dst = record { offset = offset; core = core; dst = dst }

-- Endpoint 0 sends in both slots of batch 8, first within its rack and then to another by core 1.
abbrev pub BothSlotsAreTold : Type 0
BothSlotsAreTold = slots_told a_window 0 8 ≡ told_of_slot 0 255 1 ∷ told_of_slot 1 1 3 ∷ []

-- In batch 9 it sends in the second slot alone.
abbrev pub TheSecondSlotIsTold : Type 0
TheSecondSlotIsTold = slots_told a_window 0 9 ≡ told_of_slot 1 2 2 ∷ []

-- Endpoint 2 sends nothing in batch 8.
abbrev pub NothingIsTold : Type 0
NothingIsTold = slots_told a_window 2 8 ≡ []
