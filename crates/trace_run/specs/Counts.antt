-- The counts of a flow in the run of a trace. From this project's own profile.
use Rattle.std.specs.Prelude.{◌≡◌, ◌<◌, ◌≤◌, ℕ, ◌+◌, ◌*◌, ◌-◌, drop}
use Rattle.greedy_rules.specs.Balance.{added_of}
use Rattle.endpoint_history.specs.Packets.{slots_to}
use Rattle.endpoint_history.specs.Lane.{last_reset, telling_in}
use Rattle.endpoint_history.specs.Counts.{recorded, acknowledged, lost, told, open_to}
use Rattle.trace_run.specs.Run.{Setting, told_in, replayed}
use Rattle.trace_run.specs.Histories.{lane_after}
use Rattle.trace_run.specs.Rest.{allocated_from, left_after}

-- the slots of the flow that the lane tells next
abbrev pub telling_after : Setting → ℕ → ℕ → ℕ → ℕ
telling_after setting rounds src dst =
    slots_to dst (telling_in setting.g (lane_after setting rounds src) rounds (told_in setting (replayed setting rounds).batches rounds src)).told

-- what was told of a flow, with what is told next, is in the batches up to 2 g rounds before: so where these are allocated, and maybe
-- more
abbrev pub ToldIsAllocated : Type 0
ToldIsAllocated =
    (setting : Setting) → 0 < setting.g → (allocated rounds src dst : ℕ) → rounds + 1 ≤ allocated + 2 * setting.g →
    told setting.g (lane_after setting rounds src) dst + telling_after setting rounds src dst
    ≤ allocated_from setting allocated (last_reset (lane_after setting rounds src)) src dst

-- so what is told next, and what is still open, are neither acknowledged nor lost: the lane has room for it
abbrev pub TellingHasRoom : Type 0
TellingHasRoom =
    (setting : Setting) → 0 < setting.g → (allocated rounds src dst : ℕ) → rounds + 1 ≤ allocated + 2 * setting.g →
    telling_after setting rounds src dst + open_to setting.g (lane_after setting rounds src) dst
    ≤ allocated_from setting allocated (last_reset (lane_after setting rounds src)) src dst
    - acknowledged setting.g (lane_after setting rounds src) dst - lost setting.g (lane_after setting rounds src) dst

-- no more is told of a flow than there are slots
abbrev pub ToldFitsSlots : Type 0
ToldFitsSlots = (setting : Setting) → 0 < setting.g → (rounds src dst : ℕ) → told setting.g (lane_after setting rounds src) dst ≤ rounds * setting.b

-- the slots of a flow, since the last reset, that are neither acknowledged nor lost
abbrev pub flight : Setting → ℕ → ℕ → ℕ → ℕ
flight setting rounds src dst =
    allocated_from setting rounds (last_reset (lane_after setting rounds src)) src dst
    - acknowledged setting.g (lane_after setting rounds src) dst - lost setting.g (lane_after setting rounds src) dst

-- what is demanded is acknowledged, in flight or left in the demand list, and nothing is cut off in it
pub record IsCounted (setting : Setting) (rounds src dst : ℕ) : Type 0 where
  pub within : acknowledged setting.g (lane_after setting rounds src) dst + lost setting.g (lane_after setting rounds src) dst
      ≤ allocated_from setting rounds (last_reset (lane_after setting rounds src)) src dst
  pub counted : recorded (lane_after setting rounds src) dst
      ≡ acknowledged setting.g (lane_after setting rounds src) dst + flight setting rounds src dst + left_after setting rounds src dst

abbrev pub EveryFlowIsCounted : Type 0
EveryFlowIsCounted = (setting : Setting) → 0 < setting.g → (rounds src dst : ℕ) → src < setting.endpoints → dst < setting.endpoints → IsCounted setting rounds src dst

-- lost slots are pending again: what the batches from the last reset's round on add is what is demanded and what was lost
abbrev pub LostIsAddedAgain : Setting → ℕ → ℕ → ℕ → Type 0
LostIsAddedAgain setting rounds src dst =
    added_of (record { src = src; dst = dst }) (drop (last_reset (lane_after setting rounds src)) (replayed setting rounds).batches)
    ≡ recorded (lane_after setting rounds src) dst + lost setting.g (lane_after setting rounds src) dst

abbrev pub AddsAreDemandedAndLost : Type 0
AddsAreDemandedAndLost = (setting : Setting) (rounds src dst : ℕ) → src < setting.endpoints → dst < setting.endpoints → LostIsAddedAgain setting rounds src dst
