-- What the arbiter's lane for one endpoint is after the calls that were made of it: what it takes, tells and sends downward. A history has its latest call first. From this project's own profile.
use Rattle.std.specs.Prelude.{ℕ, ◌*◌, ◌-◌, ◌==◌, ◌&&◌, Bool, not, nat_lt, nat_le, max, List, [], ◌∷◌, Option, Some, None, unwrap_or, if◌then◌else◌}
use Rattle.ack_window.specs.Arrivals.{receive_verdict, is_fresh, acknowledgement}
use Rattle.ack_window.specs.Ends.{Numbered}
use Rattle.ack_window.specs.Outstanding.{may_send_new}
use Rattle.ack_window.specs.Sends.{Event, Sends, Reads, newest_of, newest_content, open_numbers}
use Rattle.ack_window.specs.Versions.{reorder_of, span_of}
use Rattle.fcp_framing.specs.declared.packet.Demand.{Demand}
use Rattle.fcp_framing.specs.declared.packet.Told.{Told}
use Rattle.endpoint_history.specs.Packets.{Telling, DownPacket, UpPacket, Resets, Requests}

-- the downward packet of a round is made, with the endpoint's slots of the batch two windows before; an upward packet of the
-- endpoint arrives in a round, forged or not; the batch of a round is recorded
pub data LaneEvent : Type 0 where
  MakesDown : (round : ℕ) (told : List Told) → LaneEvent
  TakesUp : (round : ℕ) (packet : UpPacket) → LaneEvent
  Records : (round : ℕ) → LaneEvent

abbrev pub LaneHistory : Type 0
LaneHistory = List LaneEvent

-- ---- resets

-- the greatest epoch of the resets that arrived, 0 for none
abbrev pub epoch_of : LaneHistory → ℕ
epoch_of [] = 0
epoch_of (TakesUp round (Resets epoch version) ∷ earlier) = max epoch (epoch_of earlier)
epoch_of (_ ∷ earlier) = epoch_of earlier

-- a reset of a greater epoch starts the connection anew; any other changes nothing
abbrev pub restarts : LaneHistory → ℕ → Bool
restarts history epoch = nat_lt (epoch_of history) epoch

-- that of the last restart
abbrev pub version_of : LaneHistory → ℕ
version_of [] = 1
version_of (TakesUp round (Resets epoch version) ∷ earlier) = if restarts earlier epoch then version else version_of earlier
version_of (_ ∷ earlier) = version_of earlier

-- its round
abbrev pub last_reset : LaneHistory → ℕ
last_reset [] = 0
last_reset (TakesUp round (Resets epoch version) ∷ earlier) = if restarts earlier epoch then round else last_reset earlier
last_reset (_ ∷ earlier) = last_reset earlier

-- ---- what is taken in, since the last reset

-- a request is of the lane's epoch and version; any other is refused
unfoldable pub is_current : LaneHistory → Numbered (List Demand) → Bool
is_current history packet = packet.epoch == epoch_of history && packet.version == version_of history

-- the numbers of those that arrived
abbrev pub arrived : LaneHistory → List ℕ
arrived [] = []
arrived (TakesUp round (Resets epoch version) ∷ earlier) = if restarts earlier epoch then [] else arrived earlier
arrived (TakesUp round (Requests packet) ∷ earlier) = if is_current earlier packet then packet.seq ∷ arrived earlier else arrived earlier
arrived (_ ∷ earlier) = arrived earlier

-- whether a request is taken that arrives next
unfoldable pub takes : LaneHistory → Numbered (List Demand) → Bool
takes history packet = is_current history packet && is_fresh (receive_verdict (reorder_of (version_of history)) (arrived history) packet.seq)

-- ---- what is told, since the last reset

-- what is to be told in a round: the slots of the batch 2 g rounds before, where there is one and it is not below the last reset
abbrev pub telling_in : ℕ → LaneHistory → ℕ → List Told → Telling
telling_in g history round told = record {
  batch = round - 2 * g;
  told = if nat_le (2 * g) round && nat_le (last_reset history) (round - 2 * g) then told else [];
}

-- whether it is told under a new number, once there was a reset
unfoldable pub may_send : LaneHistory → List (Event Telling) → Bool
may_send history sent =
    may_send_new (span_of (version_of history)) (newest_of sent)
    (open_numbers (reorder_of (version_of history)) (span_of (version_of history)) sent)

-- what was told under new numbers, and the acknowledgements read
abbrev pub numbers : ℕ → LaneHistory → List (Event Telling)
numbers g [] = []
numbers g (TakesUp round (Resets epoch version) ∷ earlier) = if restarts earlier epoch then [] else numbers g earlier
numbers g (TakesUp round (Requests packet) ∷ earlier) = if is_current earlier packet then Reads packet.ack ∷ numbers g earlier else numbers g earlier
numbers g (MakesDown round told ∷ earlier) =
    if nat_lt 0 (epoch_of earlier) && may_send earlier (numbers g earlier)
    then Sends (telling_in g earlier round told) ∷ numbers g earlier
    else numbers g earlier
numbers g (_ ∷ earlier) = numbers g earlier

-- what was to be told where no new number could be sent
abbrev pub untold : ℕ → LaneHistory → List Telling
untold g [] = []
untold g (TakesUp round (Resets epoch version) ∷ earlier) = if restarts earlier epoch then [] else untold g earlier
untold g (MakesDown round told ∷ earlier) =
    if nat_lt 0 (epoch_of earlier) && not (may_send earlier (numbers g earlier))
    then telling_in g earlier round told ∷ untold g earlier
    else untold g earlier
untold g (_ ∷ earlier) = untold g earlier

-- the downward packet that is made after this history: none before the first reset, then that of the newest number
unfoldable pub packet_down : ℕ → LaneHistory → ℕ → List Told → Option DownPacket
packet_down g history round told =
    if nat_lt 0 (epoch_of history)
    then Some (record {
      epoch = epoch_of history;
      version = version_of history;
      seq = newest_of (numbers g (MakesDown round told ∷ history));
      ack = acknowledgement (reorder_of (version_of history)) (span_of (version_of history)) (arrived history);
      content = unwrap_or (newest_content (numbers g (MakesDown round told ∷ history))) (record { batch = 0; told = [] });
    })
    else None
