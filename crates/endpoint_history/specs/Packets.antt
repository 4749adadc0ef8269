-- What the two ends of a connection tell each other: resets and requests upward, slots downward. From this project's own profile.
use Rattle.std.specs.Prelude.{◌≡◌, ℕ, ◌==◌, false, List, count_by, if◌then◌else◌}
use Rattle.ack_window.specs.Ends.{Numbered}
use Rattle.fcp_framing.specs.declared.packet.Demand.{Demand}
use Rattle.fcp_framing.specs.declared.packet.Down.{Down}
use Rattle.fcp_framing.specs.declared.packet.Told.{Told}
use Rattle.fcp_framing.specs.declared.packet.Up.{Up}
use Rattle.fcp_framing.specs.Spelling.{reset_of, IsUp}

-- an endpoint's slots of a batch
pub record Telling : Type 0 where
  pub batch : ℕ
  pub told : List Told

-- how many of the slots are to this destination
abbrev pub slots_to : ℕ → List Told → ℕ
slots_to dst told = count_by (λ (t : Told). t.dst == dst) told

-- an allocation: it tells slots under a number
abbrev pub DownPacket : Type 0
DownPacket = Numbered Telling

-- a reset begins an epoch, in a version; a request names totals under a number
pub data UpPacket : Type 0 where
  Resets : (epoch version : ℕ) → UpPacket
  Requests : (packet : Numbered (List Demand)) → UpPacket

-- ---- what they are on the wire

abbrev pub down_packet : Down → DownPacket
down_packet down = record {
  epoch = down.epoch;
  version = down.version;
  seq = down.seq;
  ack = record { high = down.high; mask = down.mask };
  content = record { batch = down.batch; told = down.told.items };
}

abbrev pub up_packet : Up → UpPacket
up_packet up =
    if up.reset
    then Resets up.epoch up.version
    else Requests (record {
      epoch = up.epoch;
      version = up.version;
      seq = up.seq;
      ack = record { high = up.high; mask = up.mask };
      content = up.demands.items;
    })

-- and the way back, to or from an endpoint
abbrev pub framed_down : ℕ → DownPacket → Down
framed_down endpoint packet = record {
  version = packet.version;
  dst = endpoint;
  epoch = packet.epoch;
  seq = packet.seq;
  high = packet.ack.high;
  mask = packet.ack.mask;
  batch = packet.content.batch;
  told = record { items = packet.content.told };
}

abbrev pub framed_up : ℕ → UpPacket → Up
framed_up endpoint (Resets epoch version) = reset_of version endpoint epoch
framed_up endpoint (Requests packet) = record {
  version = packet.version;
  reset = false;
  src = endpoint;
  epoch = packet.epoch;
  seq = packet.seq;
  high = packet.ack.high;
  mask = packet.ack.mask;
  demands = record { items = packet.content };
}

-- nothing is lost on the way
pub record AreFramedAlike : Type 0 where
  pub down : (endpoint : ℕ) (packet : DownPacket) → down_packet (framed_down endpoint packet) ≡ packet
  pub up : (endpoint : ℕ) (packet : UpPacket) → up_packet (framed_up endpoint packet) ≡ packet
  pub down_back : (down : Down) → framed_down down.dst (down_packet down) ≡ down
  pub up_back : (endpoints : ℕ) (up : Up) → IsUp endpoints up → framed_up up.src (up_packet up) ≡ up
