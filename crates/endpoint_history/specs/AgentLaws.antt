-- What holds of an agent alone, whatever packets arrive: its slots, its sends and its totals. From this project's own profile.
use Rattle.std.specs.Prelude.{◌≡◌, ℕ, ◌+◌, ◌<◌, ◌≤◌, ◌==◌, max, true, false, List, [], ◌∷◌, if◌then◌else◌, map, All, Some}
use Rattle.std.specs.List.Sorted.{IsStrictlyIncreasing}
use Rattle.ack_window.specs.declared.acknowledgement.Acknowledgement.{Acknowledgement}
use Rattle.ack_window.specs.Ends.{content_of}
use Rattle.ack_window.specs.Sends.{Event, Sends, Reads, decided_by}
use Rattle.ack_window.specs.Versions.{reorder_of, span_of}
use Rattle.fcp_framing.specs.declared.packet.Demand.{Demand}
use Rattle.endpoint_history.specs.Packets.{DownPacket, slots_to}
use Rattle.endpoint_history.specs.Agent.{AgentHistory, TakesDown, TakenDown, version_of, takes, ever_taken, is_in_time, in_time, missed, slots_taken, asked, total, numbers, was_carried}
use Rattle.endpoint_history.specs.Sending.{Slot, slots_of_telling, sends, ever_sent}
use Rattle.endpoint_history.specs.Confirmed.{carried, carried_by}
use Rattle.endpoint_history.specs.Tellings.{Among}

-- a packet that is taken brings its slots, in time or missed; one that is not changes neither
pub record TakingBringsSlots : Type 0 where
  pub timely : (g round : ℕ) (packet : DownPacket) (history : AgentHistory) (dst : ℕ) → takes history packet ≡ true →
      in_time g (TakesDown round packet ∷ history) dst
      ≡ in_time g history dst + (if is_in_time g (record { round = round; packet = packet }) then slots_to dst packet.content.told else 0)
  pub late : (g round : ℕ) (packet : DownPacket) (history : AgentHistory) (dst : ℕ) → takes history packet ≡ true →
      missed g (TakesDown round packet ∷ history) dst
      ≡ missed g history dst + (if is_in_time g (record { round = round; packet = packet }) then 0 else slots_to dst packet.content.told)
  pub refused : (g round : ℕ) (packet : DownPacket) (history : AgentHistory) (dst : ℕ) → takes history packet ≡ false →
      (in_time g (TakesDown round packet ∷ history) dst ≡ in_time g history dst) × (missed g (TakesDown round packet ∷ history) dst ≡ missed g history dst)
  pub both : (g : ℕ) (history : AgentHistory) (dst : ℕ) → in_time g history dst + missed g history dst ≡ slots_taken history dst

-- no more is sent in than was asked for
abbrev pub SendsAreAsked : Type 0
SendsAreAsked = (b g : ℕ) (history : AgentHistory) (dst : ℕ) → sends b g history dst ≤ asked history dst

-- every slot ever sent in stands in a packet that was taken
abbrev pub SentWasTaken : Type 0
SentWasTaken =
    (b g : ℕ) (history : AgentHistory) (s : Slot) → Among s (ever_sent b g history) →
    (t : TakenDown) × Among t (ever_taken history) × Among s (slots_of_telling b t.packet.content)

-- a request names destinations that rise, each with a total that is not 0 and at most the present one
pub record NamesTotals (endpoints g : ℕ) (history : AgentHistory) (demands : List Demand) : Type 0 where
  pub rising : IsStrictlyIncreasing (map (λ (d : Demand). d.dst) demands)
  pub within : All (λ (d : Demand). d.dst < endpoints) demands
  pub totals : All (λ (d : Demand). (0 < d.total) × (d.total ≤ total g history d.dst)) demands

-- each that was sent in this boot does
abbrev pub RequestsNameTotals : Type 0
RequestsNameTotals =
    (endpoints g : ℕ) (history : AgentHistory) (number : ℕ) (demands : List Demand) → content_of (numbers endpoints g history) number ≡ Some demands →
    NamesTotals endpoints g history demands

-- a total that is not 0 was carried exactly where it is the greatest that was
abbrev pub ConfirmedByGreatest : Type 0
ConfirmedByGreatest =
    (endpoints g : ℕ) (history : AgentHistory) (dst : ℕ) → 0 < total g history dst →
    was_carried (reorder_of (version_of history)) (span_of (version_of history)) (numbers endpoints g history) (record { dst = dst; total = total g history dst })
    ≡ (carried (reorder_of (version_of history)) (span_of (version_of history)) (numbers endpoints g history) dst == total g history dst)

-- the greatest total that was carried rises by what an acknowledgement newly shows, and by nothing else
pub record CarriedIsWhatIsShown : Type 0 where
  pub nothing : (reorder span dst : ℕ) → carried reorder span [] dst ≡ 0
  pub sends : (reorder span : ℕ) (content : List Demand) (sent : List (Event (List Demand))) (dst : ℕ) →
      carried reorder span (Sends content ∷ sent) dst ≡ carried reorder span sent dst
  pub reads : (reorder span : ℕ) (ack : Acknowledgement) (sent : List (Event (List Demand))) (dst : ℕ) →
      carried reorder span (Reads ack ∷ sent) dst ≡ max (carried reorder span sent dst) (carried_by (decided_by reorder span sent ack) dst)
