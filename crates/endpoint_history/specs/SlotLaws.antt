-- What holds of the slots of a flow at both ends: those asked for, told, taken in, lost and sent in. From this project's own profile.
use Rattle.std.specs.Prelude.{◌≡◌, ℕ, ◌+◌, ◌≤◌, List}
use Rattle.ack_window.specs.Arrivals.{is_number_taken}
use Rattle.ack_window.specs.Versions.{reorder_of}
use Rattle.endpoint_history.specs.Agent.{AgentHistory, until, in_time, asked, slots_taken, total}
use Rattle.endpoint_history.specs.Agent as agent
use Rattle.endpoint_history.specs.Sending.{sends, sent_in, due, rounds_sent, SendsRise, in_time_from}
use Rattle.endpoint_history.specs.Lane.{LaneHistory}
use Rattle.endpoint_history.specs.Lane as lane
use Rattle.endpoint_history.specs.Counts.{slots_in, recorded, lost, told, owed}
use Rattle.endpoint_history.specs.Steps.{Step, agent_of, lane_of, ArrivesFromOther}

-- what the agent took in stands in the numbers that it took, each number's slots once
abbrev pub EachSlotIsTakenOnce : ℕ → AgentHistory → LaneHistory → Type 0
EachSlotIsTakenOnce g history lane_history =
    (dst : ℕ) →
    slots_taken (until (lane.epoch_of lane_history) history) dst
    ≡ slots_in (is_number_taken (reorder_of (lane.version_of lane_history)) (agent.arrived (until (lane.epoch_of lane_history) history))) (lane.numbers g lane_history) dst

-- what is taken in and what is lost were told
abbrev pub TakenAndLostAreTold : ℕ → AgentHistory → LaneHistory → Type 0
TakenAndLostAreTold g history lane_history =
    (dst : ℕ) → slots_taken (until (lane.epoch_of lane_history) history) dst + lost g lane_history dst ≤ told g lane_history dst

abbrev pub SlotsAgree : Type 0
SlotsAgree =
    (endpoints g : ℕ) (steps : List Step) → ArrivesFromOther endpoints g steps →
    EachSlotIsTakenOnce g (agent_of steps) (lane_of steps) × TakenAndLostAreTold g (agent_of steps) (lane_of steps)

-- what is recorded was asked for or missed, in the boot that has the lane's epoch
abbrev pub RecordedIsTotal : ℕ → AgentHistory → LaneHistory → Type 0
RecordedIsTotal g history lane_history =
    (dst : ℕ) → recorded lane_history dst ≤ total g (until (lane.epoch_of lane_history) history) dst

abbrev pub TotalsAgree : Type 0
TotalsAgree =
    (endpoints g : ℕ) (steps : List Step) → ArrivesFromOther endpoints g steps → RecordedIsTotal g (agent_of steps) (lane_of steps)

-- ---- where no more is told than is owed, which the ledger keeps

abbrev pub ToldIsOwed : ℕ → List Step → Type 0
ToldIsOwed g steps = (dst : ℕ) → told g (lane_of steps) dst ≤ owed g (lane_of steps) dst

-- what came in time was asked for
abbrev pub InTimeIsAsked : Type 0
InTimeIsAsked =
    (endpoints g : ℕ) (steps : List Step) → ArrivesFromOther endpoints g steps → ToldIsOwed g steps →
    (dst : ℕ) → in_time g (agent_of steps) dst ≤ asked (agent_of steps) dst

-- in each boot and flow, the sends and the slots in time that still wait are together at most the asks
abbrev pub SendsAndWaitingAreAsked : Type 0
SendsAndWaitingAreAsked =
    (endpoints b g : ℕ) (steps : List Step) → ArrivesFromOther endpoints g steps → SendsRise (agent_of steps) → ToldIsOwed g steps →
    (dst : ℕ) → sends b g (agent_of steps) dst + in_time_from g (agent_of steps) (rounds_sent (agent_of steps)) dst ≤ asked (agent_of steps) dst

-- so every slot that is due is sent in
abbrev pub NoneIsPassedOver : Type 0
NoneIsPassedOver =
    (endpoints b g : ℕ) (steps : List Step) (round : ℕ) → ArrivesFromOther endpoints g steps → SendsRise (agent_of steps) → ToldIsOwed g steps →
    rounds_sent (agent_of steps) ≤ round → sent_in b g (agent_of steps) round ≡ due b g (agent_of steps) round
