-- What is sent in the run of a trace. From this project's own profile.
use Rattle.std.specs.Prelude.{◌≡◌, ℕ, zero, suc, ◌<◌, ◌≤◌, ◌==◌, true, List, [], ◌++◌, count_by}
use Rattle.greedy_rules.specs.Slot.{has_flow}
use Rattle.greedy_rules.specs.Schedule.{schedule, slot_at}
use Rattle.endpoint_history.specs.Sending.{Slot, ever_sent}
use Rattle.endpoint_history.specs.SlotLaws.{ToldIsOwed}
use Rattle.endpoint_history.specs.Steps.{ArrivesFromOther}
use Rattle.endpoint_history.specs.Tellings.{Among}
use Rattle.endpoint_history.specs.Rounds.{sent_by}
use Rattle.trace_run.specs.Run.{Setting, replayed}
use Rattle.trace_run.specs.Histories.{played_after, agent_after}

-- the slots that an endpoint sent in, round after round
abbrev pub sent_up_to : Setting → ℕ → ℕ → List Slot
sent_up_to setting zero endpoint = []
sent_up_to setting (suc rounds) endpoint =
    sent_up_to setting rounds endpoint ++ sent_by setting.endpoints setting.b setting.g ((replayed setting (suc rounds)).rounds endpoint)

-- they are all that its agent ever sent in
abbrev pub SentIsWhatEachRoundSends : Type 0
SentIsWhatEachRoundSends =
    (setting : Setting) (rounds endpoint : ℕ) → ever_sent setting.b setting.g (agent_after setting rounds endpoint) ≡ sent_up_to setting rounds endpoint

-- the schedule of every run that is at least as long has the flow in that slot
abbrev pub EverySendIsScheduled : Type 0
EverySendIsScheduled =
    (setting : Setting) → 0 < setting.g → (rounds all endpoint : ℕ) → rounds ≤ all →
    (s : Slot) → Among s (sent_up_to setting rounds endpoint) →
    (0 < s.slot) × (has_flow (slot_at (schedule setting.b (replayed setting all).batches) s.slot) (record { src = endpoint; dst = s.dst }) ≡ true)

-- and no endpoint sends twice in one slot, over all its boots
abbrev pub NoSlotIsSentTwice : Type 0
NoSlotIsSentTwice =
    (setting : Setting) → 0 < setting.g → (rounds endpoint slot : ℕ) → count_by (λ (s : Slot). s.slot == slot) (sent_up_to setting rounds endpoint) ≤ 1

-- ---- where no raw row names the endpoint

-- no packet is forged, so all that is proved of both ends of a connection holds of it
abbrev pub NoPacketIsForged : Type 0
NoPacketIsForged =
    (setting : Setting) (rounds endpoint : ℕ) → ((round : ℕ) → setting.outside.raw round endpoint ≡ []) →
    ArrivesFromOther setting.endpoints setting.g (played_after setting rounds endpoint).steps

-- at the end of each round no more is told than is owed
abbrev pub ToldIsOwedInEachRound : Type 0
ToldIsOwedInEachRound =
    (setting : Setting) → 0 < setting.g → (rounds endpoint : ℕ) → endpoint < setting.endpoints → ToldIsOwed setting.g (played_after setting rounds endpoint).steps
