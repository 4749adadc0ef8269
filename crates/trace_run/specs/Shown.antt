-- What the run of every trace shows: its schedule, its sends and its counts. From this project's own profile.
use Rattle.std.specs.Prelude.{◌≡◌, ◌<◌, ◌≤◌, ℕ, ◌*◌, ◌==◌, true, All, count_by, length}
use Rattle.greedy_rules.specs.Slot.{has_flow}
use Rattle.greedy_rules.specs.SlotTable.{IsSlotOf}
use Rattle.greedy_rules.specs.Limits.{is_barred, KeepsLimits}
use Rattle.greedy_rules.specs.Matching.{IsMatching, IsMaximal}
use Rattle.greedy_rules.specs.Schedule.{schedule, slot_at, need_before}
use Rattle.endpoint_history.specs.Sending.{Slot, ever_sent}
use Rattle.endpoint_history.specs.Tellings.{Among}
use Rattle.endpoint_history.specs.Unharmed.{IsUnharmed}
use Rattle.trace_run.specs.Run.{Setting, replayed}
use Rattle.trace_run.specs.Histories.{agent_after}
use Rattle.trace_run.specs.Counts.{IsCounted, LostIsAddedAgain}
use Rattle.trace_run.specs.Sends.{sent_up_to}
use Rattle.trace_run.specs.Unharmed.{IsUnforged}

-- of the first so many rounds: a batch for each round, b slots for each batch, each a matching within the limits of the racks that no
-- waiting demand could join; endpoints send in scheduled slots alone, in each at most once; each flow's recorded demand is
-- acknowledged, in flight or pending; lost slots are pending again; and no loss, delay, repeat or boot harms an endpoint that no raw row
-- names
pub record IsShown (setting : Setting) (rounds : ℕ) : Type 0 where
  pub batches : length (replayed setting rounds).batches ≡ rounds
  pub slots : length (schedule setting.b (replayed setting rounds).batches) ≡ rounds * setting.b
  pub in_range : All (IsSlotOf setting.endpoints) (schedule setting.b (replayed setting rounds).batches)
  pub matching : (number : ℕ) → 0 < number → number ≤ rounds * setting.b → IsMatching (slot_at (schedule setting.b (replayed setting rounds).batches) number)
  pub maximal : (number : ℕ) → 0 < number → number ≤ rounds * setting.b →
      IsMaximal (is_barred setting.limits) (need_before setting.b (replayed setting rounds).batches number) (slot_at (schedule setting.b (replayed setting rounds).batches) number)
  pub keeps : All (KeepsLimits setting.limits) (schedule setting.b (replayed setting rounds).batches)
  pub scheduled : (endpoint : ℕ) (s : Slot) → Among s (sent_up_to setting rounds endpoint) →
      (0 < s.slot) × (has_flow (slot_at (schedule setting.b (replayed setting rounds).batches) s.slot) (record { src = endpoint; dst = s.dst }) ≡ true)
  pub once : (endpoint slot : ℕ) → count_by (λ (s : Slot). s.slot == slot) (sent_up_to setting rounds endpoint) ≤ 1
  pub counted : (src dst : ℕ) → src < setting.endpoints → dst < setting.endpoints → IsCounted setting rounds src dst
  pub added : (src dst : ℕ) → src < setting.endpoints → dst < setting.endpoints → LostIsAddedAgain setting rounds src dst
  -- what the agents ever sent is what is sent round after round, and an endpoint that no raw row names is unharmed after each round
  pub all_sent : (endpoint : ℕ) → ever_sent setting.b setting.g (agent_after setting rounds endpoint) ≡ sent_up_to setting rounds endpoint
  pub unharmed : (endpoint count : ℕ) → endpoint < setting.endpoints → IsUnforged setting endpoint → count ≤ rounds →
      IsUnharmed setting.endpoints setting.b setting.g ((replayed setting count).rounds endpoint)

-- for every trace, and whatever cores are named
abbrev pub EveryReplayShows : Type 0
EveryReplayShows = (setting : Setting) → 0 < setting.g → (rounds : ℕ) → IsShown setting rounds
