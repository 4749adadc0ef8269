-- One endpoint's rounds: what its agent and its lane do in each, with the world between them. From this project's own profile.
use Rattle.std.specs.Prelude.{◌≡◌, ℕ, List, [], ◌∷◌, ◌++◌, length, map, filter, Option, option_map, option_to_list}
use Rattle.std.specs.List.{filter_map, range_with_len}
use Rattle.greedy_rules.specs.declared.flows.Entry.{Entry}
use Rattle.loss_world.specs.declared.fate.Fate.{Fate}
use Rattle.loss_world.specs.Arrivals.{arrives_in}
use Rattle.fcp_framing.specs.declared.packet.Told.{Told}
use Rattle.endpoint_history.specs.Packets.{DownPacket, UpPacket}
use Rattle.endpoint_history.specs.Agent.{Boots, Asks, TakesDown, MakesUp, SendsDue, packet_up}
use Rattle.endpoint_history.specs.Sending.{Slot, sent_in}
use Rattle.endpoint_history.specs.Lane.{MakesDown, TakesUp, Records, packet_down}
use Rattle.endpoint_history.specs.Entries.{next_entry}
use Rattle.endpoint_history.specs.Steps.{Step, OfAgent, OfLane, agent_of, lane_of}

-- what comes to an endpoint from outside in one round: its boots, each with its version, then its asks, as destinations with slots;
-- the fates of its two packets; the packets of raw rows; and its slots of the batch two windows before
pub record Round : Type 0 where
  pub boots : List ℕ
  pub asks : List (ℕ × ℕ)
  pub up : Option Fate
  pub down : Option Fate
  pub raw : List UpPacket
  pub told : List Told

-- a packet with the round in which it was sent and its fate
pub record Posted (T : Type 0) : Type 0 where
  pub round : ℕ
  pub fate : Option Fate
  pub packet : T

-- a fact of each packet that was posted
abbrev pub EachPosted : {T : Type 0} → (T → Type 0) → List (Posted T) → Type 0
EachPosted P [] = Unit {0}
EachPosted P (p ∷ posted) = P p.packet × EachPosted P posted

-- those that arrive in a round, in the order of sending
abbrev pub arriving : {T : Type 0} → List (Posted T) → ℕ → List T
arriving posted round = map (λ p. p.packet) (filter (λ p. arrives_in p.fate p.round round) posted)

-- the calls of both ends, the latest first, and all packets posted each way, in the order of sending
pub record PlayedEnds : Type 0 where
  pub steps : List Step
  pub down : List (Posted DownPacket)
  pub up : List (Posted UpPacket)

-- a step for each of these, after the others
abbrev pub then_each : {X : Type 0} → (X → Step) → List X → List Step → List Step
then_each step [] steps = steps
then_each step (x ∷ xs) steps = then_each step xs (step x ∷ steps)

-- the round with this number, after what was played before
module _ (endpoints g number : ℕ) (round : Round) (before : PlayedEnds) where
  -- boots, then asks
  abbrev pub begun : List Step
  begun = then_each (λ a. OfAgent (Asks a.0 a.1)) round.asks (then_each (λ version. OfAgent (Boots version)) round.boots before.steps)

  -- the downward packet is made and sent, if one is
  abbrev pub posted_down : List (Posted DownPacket)
  posted_down = before.down ++ option_to_list (option_map (λ packet. record { round = number; fate = round.down; packet = packet }) (packet_down g (lane_of begun) number round.told))

  -- those that arrive are read
  abbrev pub heard : List Step
  heard = then_each (λ packet. OfAgent (TakesDown number packet)) (arriving posted_down number) (OfLane (MakesDown number round.told) ∷ begun)

  -- the upward packet is made and sent
  abbrev pub posted_up : List (Posted UpPacket)
  posted_up = before.up ++ record { round = number; fate = round.up; packet = packet_up endpoints g (agent_of heard) } ∷ []

  -- those that arrive are read, then the raw ones
  abbrev pub read : List Step
  read = then_each (λ packet. OfLane (TakesUp number packet)) round.raw (then_each (λ packet. OfLane (TakesUp number packet)) (arriving posted_up number) (OfAgent MakesUp ∷ heard))

  -- the batch is recorded
  abbrev pub recorded : List Step
  recorded = OfLane (Records number) ∷ read

  -- the slots that are due are sent in
  abbrev pub after_round : PlayedEnds
  after_round = record { steps = OfAgent (SendsDue number) ∷ recorded; down = posted_down; up = posted_up }

-- all rounds up to now, the latest first; they are numbered from 0
abbrev pub played : ℕ → ℕ → List Round → PlayedEnds
played endpoints g [] = record { steps = []; down = []; up = [] }
played endpoints g (round ∷ earlier) = after_round endpoints g (length earlier) round (played endpoints g earlier)

-- the entries that the last round records, and the slots that it sends
abbrev pub entries_by : ℕ → ℕ → ℕ → List Round → List Entry
entries_by endpoint endpoints g [] = []
entries_by endpoint endpoints g (round ∷ earlier) =
    filter_map (λ dst. next_entry endpoint g (lane_of (read endpoints g (length earlier) round (played endpoints g earlier))) dst) (range_with_len 0 endpoints)

abbrev pub sent_by : ℕ → ℕ → ℕ → List Round → List Slot
sent_by endpoints b g [] = []
sent_by endpoints b g (round ∷ earlier) = sent_in b g (agent_of (recorded endpoints g (length earlier) round (played endpoints g earlier))) (length earlier)

-- no raw row names the endpoint
abbrev pub NamedByNoRaw : List Round → Type 0
NamedByNoRaw [] = Unit {0}
NamedByNoRaw (round ∷ earlier) = (round.raw ≡ []) × NamedByNoRaw earlier
