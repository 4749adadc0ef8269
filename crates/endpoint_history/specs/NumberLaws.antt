-- What holds of the numbers of both ends, whatever is lost, held back or repeated, and however often the endpoint boots. From this project's own profile.
use Rattle.std.specs.Prelude.{◌≡◌, ◌≢◌, ℕ, ◌≤◌, ◌==◌, List, [], ◌++◌, count_by, Some}
use Rattle.ack_window.specs.declared.acknowledgement.Decision.TheVariants.{Acknowledged}
use Rattle.ack_window.specs.Ends.{Numbered, content_of}
use Rattle.ack_window.specs.Sends.{decision_of}
use Rattle.ack_window.specs.Versions.{reorder_of, span_of}
use Rattle.fcp_framing.specs.declared.packet.Demand.{Demand}
use Rattle.endpoint_history.specs.Packets.{Telling, DownPacket, Requests}
use Rattle.endpoint_history.specs.Agent.{AgentHistory, TakenDown, taken, ever_taken, until}
use Rattle.endpoint_history.specs.Sending.{Slot, slots_of_telling, ever_sent}
use Rattle.endpoint_history.specs.Lane.{LaneHistory, epoch_of, version_of, numbers}
use Rattle.endpoint_history.specs.Steps.{Step, agent_of, lane_of, WasMadeUp, WasMadeDown, ArrivesFromOther, RoundsRise}
use Rattle.endpoint_history.specs.Tellings.{Among, IsLost, ToldWithin}
use Rattle.endpoint_history.specs.BothEnds.{lane_end, Joined}

-- at every moment the numbers of each end agree with what arrived at the other
abbrev pub EndsAgree : Type 0
EndsAgree =
    (endpoints g : ℕ) (steps : List Step) → ArrivesFromOther endpoints g steps → Joined endpoints g (agent_of steps) (lane_end g (lane_of steps))

-- packets of one end with one epoch and number have one version and content, however often the number goes
pub record OneContentANumber : Type 0 where
  pub up : (endpoints g : ℕ) (history : AgentHistory) (one other : Numbered (List Demand)) → WasMadeUp endpoints g history (Requests one) → WasMadeUp endpoints g history (Requests other) →
      one.epoch ≡ other.epoch → one.seq ≡ other.seq → (one.version ≡ other.version) × (one.content ≡ other.content)
  pub down : (g : ℕ) (history : LaneHistory) (one other : DownPacket) → WasMadeDown g history one → WasMadeDown g history other →
      one.epoch ≡ other.epoch → one.seq ≡ other.seq → (one.version ≡ other.version) × (one.content ≡ other.content)

-- slots in an acknowledged number were taken in once, in the boot with that epoch: just one of the packets that it took has the
-- number, and it has the number's content
abbrev pub AcknowledgedIsTakenOnce : Type 0
AcknowledgedIsTakenOnce =
    (endpoints g : ℕ) (steps : List Step) → ArrivesFromOther endpoints g steps →
    (number : ℕ) → 1 ≤ number →
    decision_of (reorder_of (version_of (lane_of steps))) (span_of (version_of (lane_of steps))) (numbers g (lane_of steps)) number ≡ Some Acknowledged →
    (count_by (λ (t : TakenDown). t.packet.seq == number) (taken (until (epoch_of (lane_of steps)) (agent_of steps))) ≡ 1)
    × ((t : TakenDown) → Among t (taken (until (epoch_of (lane_of steps)) (agent_of steps))) → t.packet.seq ≡ number →
    content_of (numbers g (lane_of steps)) number ≡ Some t.packet.content)

-- a number with this epoch that tells these slots: up to one moment and up to a later one
pub record WasTakenOnce (before now : AgentHistory) (epoch number : ℕ) (telling : Telling) : Type 0 where
  -- one packet with the number was taken in that boot, and it told these slots
  pub came : count_by (λ (t : TakenDown). t.packet.seq == number) (taken (until epoch before)) ≡ 1
  pub content : (t : TakenDown) → Among t (taken (until epoch before)) → t.packet.seq ≡ number → t.packet.content ≡ telling
  -- and no second one later
  pub once : count_by (λ (t : TakenDown). t.packet.seq == number) (taken (until epoch now)) ≡ 1
  -- whatever else was taken of slots of that batch, in whatever boot, came by this number
  pub alone : (t : TakenDown) → Among t (ever_taken now) → t.packet.content.told ≢ [] → t.packet.content.batch ≡ telling.batch →
      (t.packet.epoch ≡ epoch) × (t.packet.seq ≡ number) × (t.packet.content ≡ telling)

-- slots in a number that is acknowledged at some moment were taken in once, in the boot with that epoch, and by no other number before
-- or after, in no boot
abbrev pub AcknowledgedSlotsAreTakenOnce : Type 0
AcknowledgedSlotsAreTakenOnce =
    (endpoints g : ℕ) (later earlier : List Step) → ArrivesFromOther endpoints g (later ++ earlier) → RoundsRise (lane_of (later ++ earlier)) →
    (number : ℕ) (telling : Telling) → 1 ≤ number → content_of (numbers g (lane_of earlier)) number ≡ Some telling → telling.told ≢ [] →
    decision_of (reorder_of (version_of (lane_of earlier))) (span_of (version_of (lane_of earlier))) (numbers g (lane_of earlier)) number ≡ Some Acknowledged →
    WasTakenOnce (agent_of earlier) (agent_of (later ++ earlier)) (epoch_of (lane_of earlier)) number telling

-- slots that are lost at some moment stand in no packet that is ever taken, before or after, in no boot
abbrev pub LostNumbersAreNeverTaken : Type 0
LostNumbersAreNeverTaken =
    (endpoints g : ℕ) (later earlier : List Step) → ArrivesFromOther endpoints g (later ++ earlier) → RoundsRise (lane_of (later ++ earlier)) →
    (lost : Telling) → IsLost g (lane_of earlier) lost → lost.told ≢ [] →
    (t : TakenDown) → Among t (ever_taken (agent_of (later ++ earlier))) → t.packet.content.told ≢ [] →
    t.packet.content.batch ≢ lost.batch

-- a slot that is lost at some moment is sent in no round, before or after, in no boot
abbrev pub LostIsNeverSent : Type 0
LostIsNeverSent =
    (endpoints b g : ℕ) (later earlier : List Step) → ArrivesFromOther endpoints g (later ++ earlier) → RoundsRise (lane_of (later ++ earlier)) →
    ToldWithin b (lane_of (later ++ earlier)) →
    (lost : Telling) → IsLost g (lane_of earlier) lost → (one other : Slot) → Among one (slots_of_telling b lost) → Among other (ever_sent b g (agent_of (later ++ earlier))) →
    one.slot ≢ other.slot
