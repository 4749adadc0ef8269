-- What comes to an endpoint from outside in one round, beside what its two ends do. From this project's own profile.
use Rattle.std.specs.Prelude.{ℕ, Bool, ◌&&◌, ◌==◌, List, map, filter, replicate, is_none}
use Rattle.fcp_framing.specs.declared.packet.Told.{Told}
use Rattle.fcp_framing.specs.Fields.{up_of}
use Rattle.fcp_framing.specs.Refusals.{first_refusal, refuses_up}
use Rattle.endpoint_history.specs.Packets.{UpPacket, up_packet}
use Rattle.endpoint_history.specs.Rounds.{Round}
use Rattle.lane_rounds.specs.declared.events.Events.{Events}
use Rattle.lane_rounds.specs.Raw.{Raw}

-- the bytes spell a packet of this endpoint: it is named by them
unfoldable pub names : ℕ → ℕ → List ℕ → Bool
names endpoint endpoints bytes = is_none (first_refusal (refuses_up endpoints bytes)) && (up_of bytes).src == endpoint

-- the packets of an endpoint among raw ones
abbrev pub packets_in : ℕ → ℕ → List Raw → List UpPacket
packets_in endpoint endpoints raw = map (λ r. up_packet (up_of r.bytes)) (filter (λ r. names endpoint endpoints r.bytes) raw)

-- a round of an endpoint: what comes from outside, and the slots that it is to be told
abbrev pub round_with : ℕ → ℕ → Events → List Told → Round
round_with endpoint endpoints events told = record {
  boots = replicate events.boots events.version;
  asks = events.asks;
  up = events.up;
  down = events.down;
  raw = packets_in endpoint endpoints events.raw;
  told = told;
}
