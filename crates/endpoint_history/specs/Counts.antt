-- What a lane counts of a flow since the last reset: slots recorded, told, acknowledged, lost, owed and allocated. From this project's own profile.
use Rattle.std.specs.Prelude.{ℕ, ◌+◌, ◌==◌, ◌&&◌, Bool, true, nat_le, max, List, [], ◌∷◌, sum_by, Option, if◌then◌else◌}
use Rattle.ack_window.specs.declared.acknowledgement.Decision.{Decision}
use Rattle.ack_window.specs.Acknowledgement.{is_acknowledged, is_found_lost}
use Rattle.ack_window.specs.Sends.{Event, decision_of, open_numbers}
use Rattle.ack_window.specs.Versions.{reorder_of, span_of}
use Rattle.ack_window.specs.Weights.{weight_in}
use Rattle.endpoint_history.specs.Packets.{Telling, Resets, Requests, slots_to}
use Rattle.endpoint_history.specs.Confirmed.{total_named}
use Rattle.endpoint_history.specs.Lane.{LaneHistory, TakesUp, version_of, restarts, last_reset, takes, numbers, untold}

-- the greatest total named in the requests that were taken
abbrev pub recorded : LaneHistory → ℕ → ℕ
recorded [] dst = 0
recorded (TakesUp round (Resets epoch version) ∷ earlier) dst = if restarts earlier epoch then 0 else recorded earlier dst
recorded (TakesUp round (Requests packet) ∷ earlier) dst = if takes earlier packet then max (total_named dst packet.content) (recorded earlier dst) else recorded earlier dst
recorded (_ ∷ earlier) dst = recorded earlier dst

-- ---- slots told

-- the slots to a destination in the numbers of which this holds
unfoldable pub slots_in : (ℕ → Bool) → List (Event Telling) → ℕ → ℕ
slots_in test sent dst = weight_in (λ (t : Telling). slots_to dst t.told) test sent

-- what is decided of a number passes the test
abbrev pub decides : (Option Decision → Bool) → LaneHistory → List (Event Telling) → ℕ → Bool
decides test history sent number = test (decision_of (reorder_of (version_of history)) (span_of (version_of history)) sent number)

-- the slots in numbers that are acknowledged
abbrev pub acknowledged : ℕ → LaneHistory → ℕ → ℕ
acknowledged g history dst = slots_in (decides is_acknowledged history (numbers g history)) (numbers g history) dst

abbrev pub slots_untold : ℕ → LaneHistory → ℕ → ℕ
slots_untold g history dst = sum_by (λ (t : Telling). slots_to dst t.told) (untold g history)

-- the slots in numbers found lost, and those untold
abbrev pub lost : ℕ → LaneHistory → ℕ → ℕ
lost g history dst = slots_in (decides is_found_lost history (numbers g history)) (numbers g history) dst + slots_untold g history dst

-- the slots in numbers that are still open
abbrev pub open_to : ℕ → LaneHistory → ℕ → ℕ
open_to g history dst =
    sum_by (λ s. slots_to dst s.content.told) (open_numbers (reorder_of (version_of history)) (span_of (version_of history)) (numbers g history))

-- all slots that were to be told, under a number or not
abbrev pub told : ℕ → LaneHistory → ℕ → ℕ
told g history dst = slots_in (λ number. true) (numbers g history) dst + slots_untold g history dst

-- the slots that have to be allocated: those recorded, and again those that were lost
abbrev pub owed : ℕ → LaneHistory → ℕ → ℕ
owed g history dst = recorded history dst + lost g history dst

-- ---- slots allocated

-- so many slots to a destination stand in a batch that is published
pub record Allocation : Type 0 where
  pub dst : ℕ
  pub batch : ℕ
  pub slots : ℕ

-- those of the batches from the round of the last reset on
abbrev pub allocated : LaneHistory → List Allocation → ℕ → ℕ
allocated history allocations dst = sum_by (λ (a : Allocation). if a.dst == dst && nat_le (last_reset history) a.batch then a.slots else 0) allocations
