-- What is kept of a trace beside its asks, and the order in which it is kept. This project's own profile.
use Rattle.std.specs.Prelude.{◌≡◌, ℕ, ◌+◌, ◌*◌, ◌/◌, ◌%◌, ◌<◌, ◌≤◌, ◌==◌, ◌&&◌, Bool, true, false, List, length, map, filter, take, drop, slice_get, All}
use Rattle.std.specs.List.{filter_map}
use Rattle.std.specs.List.Sorted.{IsNonDecreasingBy}
use Rattle.trace_text.specs.Rows.{Row}
use Rattle.trace_text.specs.Earlier.{is_same_way, fate_in, boot_in, packet_in}
use Rattle.trace_text.specs.Faults.{is_fate}
use Rattle.trace_text.specs.Ranks.{AreStarts}
use Rattle.trace_text.specs.Trace.{Events}
use Rattle.trace_text.specs.declared.events.GivenFate.{GivenFate}
use Rattle.trace_text.specs.declared.events.Boot.{Boot}
use Rattle.trace_text.specs.declared.packets.KeptPacket.{KeptPacket}

abbrev pub way_number : Bool → ℕ
way_number true = 1
way_number false = 0

-- fates are kept by round, then endpoint, then way; boots by round, then endpoint; packets by the number under which each is kept,
-- which is a raw packet's round. There are at most 256 endpoints
abbrev pub fate_rank : GivenFate → ℕ
fate_rank given = (given.round * 256 + given.endpoint) * 2 + way_number given.up

abbrev pub boot_rank : Boot → ℕ
boot_rank boot = boot.round * 256 + boot.endpoint

abbrev pub packet_rank : KeptPacket → ℕ
packet_rank packet = packet.key

-- a fate of the packet of this round, endpoint and way
abbrev pub is_fate_of : ℕ → ℕ → Bool → GivenFate → Bool
is_fate_of round endpoint up given = (given.round == round) && (given.endpoint == endpoint) && is_same_way given.up up

abbrev pub is_boot_of : ℕ → ℕ → Boot → Bool
is_boot_of round endpoint boot = (boot.round == round) && (boot.endpoint == endpoint)

abbrev pub is_packet_of : ℕ → KeptPacket → Bool
is_packet_of key packet = packet.key == key

-- a packet that is kept under a number, of so many bytes from a place on, which is kept in two parts; and that place
abbrev pub packet_from : ℕ → ℕ → ℕ → KeptPacket
packet_from key start size = record { key = key; low = start % 4294967296; high = start / 4294967296; size = size }

abbrev pub packet_start : KeptPacket → ℕ
packet_start packet = packet.high * 4294967296 + packet.low

-- the bytes of a packet, of those of all
abbrev pub packet_of : List ℕ → KeptPacket → List ℕ
packet_of bytes packet = take packet.size (drop (packet_start packet) bytes)

-- what is kept, by round and endpoint
abbrev pub events_kept : List GivenFate → List Boot → List KeptPacket → List ℕ → Events
events_kept fates boots raws bytes = record {
  fates = λ round endpoint up. slice_get (map (λ given. given.fate) (filter (is_fate_of round endpoint up) fates)) 0;
  boots = λ round endpoint. map (λ boot. boot.version) (filter (is_boot_of round endpoint) boots);
  raw = λ round. map (packet_of bytes) (filter (is_packet_of round) raws);
}

-- a fate and a boot of one of so many endpoints, and a packet within these bytes
abbrev pub IsFateAmong : ℕ → GivenFate → Type 0
IsFateAmong endpoints given = (given.endpoint < endpoints) × (is_fate given.fate ≡ true)

abbrev pub IsBootAmong : ℕ → Boot → Type 0
IsBootAmong endpoints boot = (boot.endpoint < endpoints) × (1 ≤ boot.version) × (boot.version ≤ 2)

abbrev pub IsWithin : ℕ → KeptPacket → Type 0
IsWithin bytes packet = (packet_start packet + packet.size ≤ bytes) × (packet.size ≤ 2048)

-- all that is kept is
pub record EventsAreAmong (endpoints : ℕ) (fates : List GivenFate) (boots : List Boot) (raws : List KeptPacket) (bytes : List ℕ) : Type 0 where
  pub each_fate : All (IsFateAmong endpoints) fates
  pub each_boot : All (IsBootAmong endpoints) boots
  pub each_raw : All (IsWithin (length bytes)) raws

-- what a trace keeps, in the order of ranks, and where the fates, the boots and the raw packets of each round begin; it has no more
-- boots and no more raw packets than its text has bytes
pub record AreKept (endpoints rounds : ℕ) (fates : List GivenFate) (fate_starts : List ℕ) (boots : List Boot) (boot_starts : List ℕ) (raws : List KeptPacket) (raw_starts : List ℕ) (bytes : List ℕ) : Type 0 where
  pub among : EventsAreAmong endpoints fates boots raws bytes
  pub fates_rise : IsNonDecreasingBy fate_rank fates
  pub fates_begin : AreStarts fate_rank 512 rounds fates fate_starts
  pub boots_rise : IsNonDecreasingBy boot_rank boots
  pub boots_begin : AreStarts boot_rank 256 rounds boots boot_starts
  pub raws_rise : IsNonDecreasingBy packet_rank raws
  pub raws_begin : AreStarts packet_rank 1 rounds raws raw_starts
  pub few : length boots ≤ 67108864
  pub few_raws : length raws ≤ 67108864

-- what is kept of these rows
pub record AreEventsOf (before : List Row) (fates : List GivenFate) (boots : List Boot) (raws : List KeptPacket) (bytes : List ℕ) : Type 0 where
  pub each_fate : (round endpoint : ℕ) (up : Bool) → map (λ given. given.fate) (filter (is_fate_of round endpoint up) fates) ≡ filter_map (fate_in round endpoint up) before
  pub each_boot : (round endpoint : ℕ) → map (λ boot. boot.version) (filter (is_boot_of round endpoint) boots) ≡ filter_map (boot_in round endpoint) before
  pub each_raw : (round : ℕ) → map (packet_of bytes) (filter (is_packet_of round) raws) ≡ filter_map (packet_in round) before
