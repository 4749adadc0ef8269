-- What a round of an endpoint asks for, what it leaves of the rounds, and what it gives. From this project's own profile.
use Rattle.std.specs.Prelude.{◌≡◌, ◌<◌, ◌++◌, ◌^◌, ℕ, ◌+◌, true, List, ◌∷◌, replicate}
use Rattle.greedy_rules.specs.declared.flows.Entry.{Entry}
use Rattle.greedy_rules.specs.Batches.{IsAboveLast}
use Rattle.fcp_framing.specs.declared.packet.Told.{Told}
use Rattle.fcp_framing.specs.Versions.{IsVersion}
use Rattle.endpoint_history.specs.Agent.{AgentHistory, Boots}
use Rattle.endpoint_history.specs.Counts.{Allocation}
use Rattle.endpoint_history.specs.Rounds.{Round, NamedByNoRaw, entries_by, sent_by}
use Rattle.endpoint_history.specs.Sending.{Slot}
use Rattle.endpoint_history.specs.Unharmed.{IsUnharmed}
use Rattle.endpoint_agent.specs.Standing as agents
use Rattle.arbiter_lane.specs.State.{AreSlots, AreAllocated}
use Rattle.lane_rounds.specs.declared.events.Events.{Events}
use Rattle.lane_rounds.specs.Outside.{round_with}
use Rattle.lane_rounds.specs.Refused.{refused_by}
use Rattle.lane_rounds.specs.Standing.{RoundsStandFor}
use Rattle.lane_rounds.specs.State.{RoundsState, MayAsk, with_each}

-- a round may be played with what comes from outside and what is told in it, where its batch has these entries
pub record MayPlayRound (state : RoundsState) (number : ℕ) (events : Events) (told : List Told) (entries : List Entry) : Type 0 where
  -- after a round that wanted for memory there is none
  pub whole : state.is_whole ≡ true
  -- rounds are numbered from 0 on
  pub round : number ≡ state.lane.round
  pub rounds : number < 100000
  -- the agent boots and asks as its own calls allow: after the boots the asks of a flow stay within the limit
  pub version : 0 < events.boots → IsVersion events.version
  pub epochs : state.agent.epoch + events.boots < 2 ^ 32
  pub asks : (calls : AgentHistory) × agents.AgentStandsFor state.agent calls
      × MayAsk state.lane.endpoint state.lane.endpoints (with_each Boots (replicate events.boots events.version) calls) events.asks
  -- what is told are the endpoint's slots of one batch, which were counted by `allocated` before
  pub slots : AreSlots state.lane.endpoints state.lane.b state.lane.endpoint told
  pub allocated : AreAllocated state.lane number told
  -- the entries are of lower endpoints
  pub above : IsAboveLast entries (record { src = state.lane.endpoint; dst = 0 })

-- one round more was played, which was this one
pub record HasRoundMore (old : RoundsState) (number : ℕ) (next : Round) (new : RoundsState) : Type 0 where
  -- whose rounds they are, and their sizes, stay
  pub endpoint : new.lane.endpoint ≡ old.lane.endpoint
  pub endpoints : new.lane.endpoints ≡ old.lane.endpoints
  pub b : new.lane.b ≡ old.lane.b
  pub g : new.lane.g ≡ old.lane.g
  -- no call wanted for memory
  pub whole : new.is_whole ≡ true
  -- the round after it is next
  pub round : new.lane.round ≡ number + 1
  -- what they stood for, with this round
  pub stands : (rounds : List Round) (allocations : List Allocation) → RoundsStandFor old rounds allocations →
      RoundsStandFor new (next ∷ rounds) allocations
  -- no loss or boot harms where no raw packet names the endpoint
  pub unharmed : (rounds : List Round) (allocations : List Allocation) → RoundsStandFor old rounds allocations → NamedByNoRaw (next ∷ rounds) →
      IsUnharmed new.lane.endpoints new.lane.b new.lane.g (next ∷ rounds)

-- what a round gives: entries to its batch, what is sent in it, and its refusals, after those that were told before
pub record GivesRound (state : RoundsState) (events : Events) (told : List Told) (old_entries new_entries : List Entry) (sent : List Slot) (old_refused new_refused : List (ℕ × ℕ)) : Type 0 where
  -- the batch has the endpoint's entries of this round more
  pub entries : (rounds : List Round) (allocations : List Allocation) → RoundsStandFor state rounds allocations →
      new_entries ≡ old_entries ++ entries_by state.lane.endpoint state.lane.endpoints state.lane.g (round_with state.lane.endpoint state.lane.endpoints events told ∷ rounds)
  -- these are its slots that were due
  pub sends : (rounds : List Round) (allocations : List Allocation) → RoundsStandFor state rounds allocations →
      sent ≡ sent_by state.lane.endpoints state.lane.b state.lane.g (round_with state.lane.endpoint state.lane.endpoints events told ∷ rounds)
  -- raw packets that are refused are told with their numbers
  pub refused : (rounds : List Round) (allocations : List Allocation) → RoundsStandFor state rounds allocations →
      new_refused ≡ old_refused ++ refused_by state.lane.endpoint state.lane.endpoints state.lane.g events told rounds
