-- What no loss, delay, repeat or boot does to an endpoint that no raw row names. From this project's own profile: taking stops exactly
-- where finding lost starts, and every open number stands in every acknowledgement.
use Rattle.std.specs.Prelude.{◌≡◌, ◌≢◌, ℕ, ◌+◌, ◌≤◌, List, [], ◌∷◌, ◌++◌, length, Some}
use Rattle.ack_window.specs.declared.acknowledgement.Decision.TheVariants.{Acknowledged}
use Rattle.ack_window.specs.Ends.{content_of}
use Rattle.ack_window.specs.Sends.{decision_of}
use Rattle.ack_window.specs.Versions.{reorder_of, span_of}
use Rattle.endpoint_history.specs.Packets.{Telling}
use Rattle.endpoint_history.specs.Agent.{asked}
use Rattle.endpoint_history.specs.Lane.{epoch_of, version_of, numbers}
use Rattle.endpoint_history.specs.NumberLaws.{WasTakenOnce}
use Rattle.endpoint_history.specs.Rounds.{Round, recorded, played, sent_by, NamedByNoRaw}
use Rattle.endpoint_history.specs.Sending.{Slot, slots_of_telling, sends, due, ever_sent, in_time_from}
use Rattle.endpoint_history.specs.SlotLaws.{ToldIsOwed}
use Rattle.endpoint_history.specs.Steps.{Step, agent_of, lane_of}
use Rattle.endpoint_history.specs.Tellings.{Among, IsLost, ToldWithin}

-- this holds of the calls of both ends up to every moment among these
abbrev pub AtEachMoment : List Step → (List Step → Type 0) → Type 0
AtEachMoment steps holds = (later earlier : List Step) → steps ≡ later ++ earlier → holds earlier

-- a slot in a number that is found lost by that moment, or untold, is sent in in none of the steps, before or after, in no boot
abbrev pub LostSlotsAreNotSent : ℕ → ℕ → List Step → List Step → Type 0
LostSlotsAreNotSent b g steps earlier =
    (lost : Telling) → IsLost g (lane_of earlier) lost → (one other : Slot) → Among one (slots_of_telling b lost) → Among other (ever_sent b g (agent_of steps)) → one.slot ≢ other.slot

-- slots in a number that is acknowledged by that moment were taken in once, in the boot with that epoch, and by no other number
abbrev pub AcknowledgedSlotsWereTaken : ℕ → List Step → List Step → Type 0
AcknowledgedSlotsWereTaken g steps earlier =
    (number : ℕ) (telling : Telling) → 1 ≤ number → content_of (numbers g (lane_of earlier)) number ≡ Some telling → telling.told ≢ [] →
    decision_of (reorder_of (version_of (lane_of earlier))) (span_of (version_of (lane_of earlier))) (numbers g (lane_of earlier)) number ≡ Some Acknowledged →
    WasTakenOnce (agent_of earlier) (agent_of steps) (epoch_of (lane_of earlier)) number telling

-- the slots that came in time, in an earlier round or in the last of these, and are due in it
abbrev pub due_by : ℕ → ℕ → ℕ → List Round → List Slot
due_by endpoints b g [] = []
due_by endpoints b g (round ∷ earlier) = due b g (agent_of (recorded endpoints g (length earlier) round (played endpoints g earlier))) (length earlier)

pub record IsUnharmed (endpoints b g : ℕ) (rounds : List Round) : Type 0 where
  -- what is lost is never sent, and what is acknowledged was taken in once
  pub lost : AtEachMoment (played endpoints g rounds).steps (LostSlotsAreNotSent b g (played endpoints g rounds).steps)
  pub acknowledged : AtEachMoment (played endpoints g rounds).steps (AcknowledgedSlotsWereTaken g (played endpoints g rounds).steps)
  -- in the present boot, the sends of a flow and its slots in time that are not yet due are together at most its asks
  pub waiting : (dst : ℕ) →
      sends b g (agent_of (played endpoints g rounds).steps) dst + in_time_from g (agent_of (played endpoints g rounds).steps) (length rounds) dst
      ≤ asked (agent_of (played endpoints g rounds).steps) dst
  -- so the last round passes no slot over
  pub sent : sent_by endpoints b g rounds ≡ due_by endpoints b g rounds

-- so it is after all rounds in which no raw packet names the endpoint, where no more is told than lies in a batch and is owed
abbrev pub NoLossOrBootHarms : Type 0
NoLossOrBootHarms =
    (endpoints b g : ℕ) (rounds : List Round) → NamedByNoRaw rounds → ToldWithin b (lane_of (played endpoints g rounds).steps) → ToldIsOwed g (played endpoints g rounds).steps →
    IsUnharmed endpoints b g rounds
