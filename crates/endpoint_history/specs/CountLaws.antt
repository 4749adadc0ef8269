-- What each call changes of a lane's counts, and what they come to together. From this project's own profile.
use Rattle.std.specs.Prelude.{◌≡◌, ℕ, ◌+◌, ◌<◌, ◌≤◌, true, false, List, ◌∷◌, Bool, [], Some}
use Rattle.ack_window.specs.Ends.{Numbered, content_of}
use Rattle.ack_window.specs.Sends.{decided_by}
use Rattle.ack_window.specs.Versions.{reorder_of, span_of}
use Rattle.ack_window.specs.Weights.{weight_lost, weight_shown}
use Rattle.fcp_framing.specs.declared.packet.Demand.{Demand}
use Rattle.fcp_framing.specs.declared.packet.Told.{Told}
use Rattle.endpoint_history.specs.Packets.{Telling, Resets, Requests, slots_to}
use Rattle.endpoint_history.specs.Lane.{LaneHistory, MakesDown, TakesUp, epoch_of, version_of, restarts, is_current, telling_in, may_send, numbers}
use Rattle.endpoint_history.specs.Counts.{recorded, acknowledged, lost, told, owed, open_to}
use Rattle.endpoint_history.specs.Entries.{counted_from}
use Rattle.endpoint_history.specs.Steps.{rounds_begun, RoundsRise}
use Rattle.endpoint_history.specs.Tellings.{EachToldPasses}

-- what is told of a round's slots goes to one destination
abbrev pub telling_to : ℕ → LaneHistory → ℕ → List Told → ℕ → ℕ
telling_to g history round slots dst = slots_to dst (telling_in g history round slots).told

-- once there was a reset, a round's slots are told, and lost at once where no new number may be sent; nothing else changes
pub record MakingTells : Type 0 where
  pub tells : (g round : ℕ) (slots : List Told) (history : LaneHistory) (dst : ℕ) → 0 < epoch_of history →
      told g (MakesDown round slots ∷ history) dst ≡ told g history dst + telling_to g history round slots dst
  pub loses_none : (g round : ℕ) (slots : List Told) (history : LaneHistory) (dst : ℕ) → 0 < epoch_of history → may_send history (numbers g history) ≡ true →
      lost g (MakesDown round slots ∷ history) dst ≡ lost g history dst
  pub loses_all : (g round : ℕ) (slots : List Told) (history : LaneHistory) (dst : ℕ) → 0 < epoch_of history → may_send history (numbers g history) ≡ false →
      lost g (MakesDown round slots ∷ history) dst ≡ lost g history dst + telling_to g history round slots dst
  pub decides_none : (g round : ℕ) (slots : List Told) (history : LaneHistory) (dst : ℕ) →
      acknowledged g (MakesDown round slots ∷ history) dst ≡ acknowledged g history dst
  pub before : (g round : ℕ) (slots : List Told) (history : LaneHistory) (dst : ℕ) → epoch_of history ≡ 0 →
      (told g (MakesDown round slots ∷ history) dst ≡ told g history dst) × (lost g (MakesDown round slots ∷ history) dst ≡ lost g history dst)

-- a request that is current decides what its acknowledgement says, whether it is taken or not; nothing else changes
pub record ReadingDecides : Type 0 where
  pub shows : (g round : ℕ) (packet : Numbered (List Demand)) (history : LaneHistory) (dst : ℕ) → is_current history packet ≡ true →
      acknowledged g (TakesUp round (Requests packet) ∷ history) dst
      ≡ acknowledged g history dst
      + weight_shown (λ (t : Telling). slots_to dst t.told) (decided_by (reorder_of (version_of history)) (span_of (version_of history)) (numbers g history) packet.ack)
  pub finds : (g round : ℕ) (packet : Numbered (List Demand)) (history : LaneHistory) (dst : ℕ) → is_current history packet ≡ true →
      lost g (TakesUp round (Requests packet) ∷ history) dst
      ≡ lost g history dst
      + weight_lost (λ (t : Telling). slots_to dst t.told) (decided_by (reorder_of (version_of history)) (span_of (version_of history)) (numbers g history) packet.ack)
  pub tells_none : (g round : ℕ) (packet : Numbered (List Demand)) (history : LaneHistory) (dst : ℕ) →
      told g (TakesUp round (Requests packet) ∷ history) dst ≡ told g history dst
  pub refused : (g round : ℕ) (packet : Numbered (List Demand)) (history : LaneHistory) (dst : ℕ) → is_current history packet ≡ false →
      (acknowledged g (TakesUp round (Requests packet) ∷ history) dst ≡ acknowledged g history dst)
      × (lost g (TakesUp round (Requests packet) ∷ history) dst ≡ lost g history dst)
      × (recorded (TakesUp round (Requests packet) ∷ history) dst ≡ recorded history dst)

-- a reset of a greater epoch sets all counts to 0; any other changes none
pub record ResetsCountAnew : Type 0 where
  pub anew : (g round epoch version : ℕ) (history : LaneHistory) (dst : ℕ) → restarts history epoch ≡ true →
      (recorded (TakesUp round (Resets epoch version) ∷ history) dst ≡ 0)
      × (told g (TakesUp round (Resets epoch version) ∷ history) dst ≡ 0)
      × (acknowledged g (TakesUp round (Resets epoch version) ∷ history) dst ≡ 0)
      × (lost g (TakesUp round (Resets epoch version) ∷ history) dst ≡ 0)
      × (owed g (TakesUp round (Resets epoch version) ∷ history) dst ≡ 0)
  pub as_before : (g round epoch version : ℕ) (history : LaneHistory) (dst : ℕ) → restarts history epoch ≡ false →
      (recorded (TakesUp round (Resets epoch version) ∷ history) dst ≡ recorded history dst)
      × (told g (TakesUp round (Resets epoch version) ∷ history) dst ≡ told g history dst)
      × (acknowledged g (TakesUp round (Resets epoch version) ∷ history) dst ≡ acknowledged g history dst)
      × (lost g (TakesUp round (Resets epoch version) ∷ history) dst ≡ lost g history dst)
      × (owed g (TakesUp round (Resets epoch version) ∷ history) dst ≡ owed g history dst)

-- a slot that was told is acknowledged, lost or in an open number, and only one of these; what is owed never falls within a round
pub record CountsAddUp : Type 0 where
  pub three : (g : ℕ) (history : LaneHistory) (dst : ℕ) → told g history dst ≡ acknowledged g history dst + lost g history dst + open_to g history dst
  pub grows : (g : ℕ) (history : LaneHistory) (dst : ℕ) → owed g (counted_from history) dst ≤ owed g history dst

-- what goes with a number is some round's slots, or none: so it passes every test that these pass; and it is of an earlier round
pub record WhatIsToldWasHandedOver : Type 0 where
  pub passes : (g : ℕ) (test : List Told → Bool) (history : LaneHistory) (number : ℕ) (telling : Telling) → test [] ≡ true → EachToldPasses test history →
      content_of (numbers g history) number ≡ Some telling → test telling.told ≡ true
  pub before : (g : ℕ) (history : LaneHistory) (number : ℕ) (telling : Telling) → RoundsRise history →
      content_of (numbers g history) number ≡ Some telling → telling.batch < rounds_begun history
