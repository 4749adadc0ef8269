-- What an endpoint's agent is after the calls that were made of it: what it takes, asks for and sends upward. A history has its latest call first. From this project's own profile.
use Rattle.std.specs.Prelude.{ℕ, ◌+◌, ◌*◌, ◌==◌, ◌&&◌, Bool, true, false, not, nat_le, List, [], ◌∷◌, map, filter, sum_by, unwrap_or, if◌then◌else◌}
use Rattle.std.specs.List.{list_any, range_with_len}
use Rattle.ack_window.specs.Acknowledgement.{is_acknowledged}
use Rattle.ack_window.specs.Arrivals.{receive_verdict, is_fresh, acknowledgement}
use Rattle.ack_window.specs.Outstanding.{may_send_new}
use Rattle.ack_window.specs.Sends.{Event, Sends, Reads, newest_of, newest_content, numbers_sent, decision_of, open_numbers}
use Rattle.ack_window.specs.Versions.{reorder_of, span_of}
use Rattle.fcp_framing.specs.declared.packet.Demand.{Demand}
use Rattle.endpoint_history.specs.Packets.{DownPacket, UpPacket, Resets, Requests, slots_to}

-- it boots with a version; so many slots are asked for to a destination; an allocation for this endpoint arrives in a round,
-- whatever its epoch; the upward packet is made; the slots of a round are sent in
pub data AgentEvent : Type 0 where
  Boots : (version : ℕ) → AgentEvent
  Asks : (dst slots : ℕ) → AgentEvent
  TakesDown : (round : ℕ) (packet : DownPacket) → AgentEvent
  MakesUp : AgentEvent
  SendsDue : (round : ℕ) → AgentEvent

abbrev pub AgentHistory : Type 0
AgentHistory = List AgentEvent

-- ---- boots

-- 1 and the boots up to now
abbrev pub epoch_of : AgentHistory → ℕ
epoch_of [] = 1
epoch_of (Boots version ∷ earlier) = epoch_of earlier + 1
epoch_of (_ ∷ earlier) = epoch_of earlier

-- that of the last boot, 1 before the first
abbrev pub version_of : AgentHistory → ℕ
version_of [] = 1
version_of (Boots version ∷ earlier) = version
version_of (_ ∷ earlier) = version_of earlier

-- the history up to the end of the boot with this epoch: what is said below of the present boot is said of that one by it.
-- None where the epoch is still to come
abbrev pub until : ℕ → AgentHistory → AgentHistory
until epoch [] = []
until epoch (event ∷ earlier) = if epoch_of (event ∷ earlier) == epoch then event ∷ earlier else until epoch earlier

-- ---- what is taken in, in the present boot

-- an allocation is of the present epoch and version; any other is refused
unfoldable pub is_current : AgentHistory → DownPacket → Bool
is_current history packet = packet.epoch == epoch_of history && packet.version == version_of history

-- the numbers of those that arrived
abbrev pub arrived : AgentHistory → List ℕ
arrived [] = []
arrived (Boots version ∷ earlier) = []
arrived (TakesDown round packet ∷ earlier) = if is_current earlier packet then packet.seq ∷ arrived earlier else arrived earlier
arrived (_ ∷ earlier) = arrived earlier

-- whether an allocation is taken that arrives next
unfoldable pub takes : AgentHistory → DownPacket → Bool
takes history packet = is_current history packet && is_fresh (receive_verdict (reorder_of (version_of history)) (arrived history) packet.seq)

-- an allocation that was taken, and in which round
pub record TakenDown : Type 0 where
  pub round : ℕ
  pub packet : DownPacket

abbrev pub taken : AgentHistory → List TakenDown
taken [] = []
taken (Boots version ∷ earlier) = []
taken (TakesDown round packet ∷ earlier) = if takes earlier packet then record { round = round; packet = packet } ∷ taken earlier else taken earlier
taken (_ ∷ earlier) = taken earlier

-- those of all boots
abbrev pub ever_taken : AgentHistory → List TakenDown
ever_taken [] = []
ever_taken (TakesDown round packet ∷ earlier) = if takes earlier packet then record { round = round; packet = packet } ∷ ever_taken earlier else ever_taken earlier
ever_taken (_ ∷ earlier) = ever_taken earlier

abbrev pub is_none_taken : List TakenDown → Bool
is_none_taken [] = true
is_none_taken (_ ∷ _) = false

-- ---- totals

-- the slots of a batch come in time where their allocation is taken at most 2 g + 2 rounds later; windows have g rounds
abbrev pub is_in_time : ℕ → TakenDown → Bool
is_in_time g t = nat_le t.round (t.packet.content.batch + 2 * g + 2)

-- the slots to a destination that came in time, those that were missed, and all of them
abbrev pub in_time : ℕ → AgentHistory → ℕ → ℕ
in_time g history dst = sum_by (λ (t : TakenDown). if is_in_time g t then slots_to dst t.packet.content.told else 0) (taken history)

abbrev pub missed : ℕ → AgentHistory → ℕ → ℕ
missed g history dst = sum_by (λ (t : TakenDown). if is_in_time g t then 0 else slots_to dst t.packet.content.told) (taken history)

abbrev pub slots_taken : AgentHistory → ℕ → ℕ
slots_taken history dst = sum_by (λ (t : TakenDown). slots_to dst t.packet.content.told) (taken history)

-- what was asked for to a destination
abbrev pub asked : AgentHistory → ℕ → ℕ
asked [] dst = 0
asked (Boots version ∷ earlier) dst = 0
asked (Asks to slots ∷ earlier) dst = if to == dst then asked earlier dst + slots else asked earlier dst
asked (_ ∷ earlier) dst = asked earlier dst

-- the total of a flow: what was asked for and what was missed
unfoldable pub total : ℕ → AgentHistory → ℕ → ℕ
total g history dst = asked history dst + missed g history dst

-- ---- requests

-- a request that is acknowledged carried this total
abbrev pub was_carried : ℕ → ℕ → List (Event (List Demand)) → Demand → Bool
was_carried reorder span sent demand =
    list_any
    (λ s. is_acknowledged (decision_of reorder span sent s.number) && list_any (λ (d : Demand). d.dst == demand.dst && d.total == demand.total) s.content)
    (numbers_sent sent)

-- the totals that a new request names, rising by destination: those that are not confirmed, which is neither 0 nor carried
unfoldable pub unconfirmed : ℕ → ℕ → AgentHistory → List (Event (List Demand)) → List Demand
unconfirmed endpoints g history sent =
    filter
    (λ d. not (d.total == 0) && not (was_carried (reorder_of (version_of history)) (span_of (version_of history)) sent d))
    (map (λ dst. record { dst = dst; total = total g history dst }) (range_with_len 0 endpoints))

-- whether the next upward packet is a request with a new number
unfoldable pub sends_new : AgentHistory → List (Event (List Demand)) → Bool
sends_new history sent =
    not (is_none_taken (taken history))
    && may_send_new (span_of (version_of history)) (newest_of sent)
    (open_numbers (reorder_of (version_of history)) (span_of (version_of history)) sent)

-- the requests of this boot under new numbers, and the acknowledgements read
abbrev pub numbers : ℕ → ℕ → AgentHistory → List (Event (List Demand))
numbers endpoints g [] = []
numbers endpoints g (Boots version ∷ earlier) = []
numbers endpoints g (TakesDown round packet ∷ earlier) =
    if is_current earlier packet then Reads packet.ack ∷ numbers endpoints g earlier else numbers endpoints g earlier
numbers endpoints g (MakesUp ∷ earlier) =
    if sends_new earlier (numbers endpoints g earlier)
    then Sends (unconfirmed endpoints g earlier (numbers endpoints g earlier)) ∷ numbers endpoints g earlier
    else numbers endpoints g earlier
numbers endpoints g (_ ∷ earlier) = numbers endpoints g earlier

-- the upward packet that is made after this history: a reset until an allocation is taken, then the newest request
unfoldable pub packet_up : ℕ → ℕ → AgentHistory → UpPacket
packet_up endpoints g history =
    if is_none_taken (taken history)
    then Resets (epoch_of history) (version_of history)
    else Requests (record {
      epoch = epoch_of history;
      version = version_of history;
      seq = newest_of (numbers endpoints g (MakesUp ∷ history));
      ack = acknowledgement (reorder_of (version_of history)) (span_of (version_of history)) (arrived history);
      content = unwrap_or (newest_content (numbers endpoints g (MakesUp ∷ history))) [];
    })
