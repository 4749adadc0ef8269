-- Packets on the wire.
use Rattle.std.proofs.Common.{◌≡◌, ℕ, Bool, cond, sym, ◌∙◌, ap, refl, inl, inr}
use Rattle.fcp_framing.specs.declared.packet.Up.{Up}
use Rattle.fcp_framing.specs.Spelling.{IsUp}
use Rattle.endpoint_history.specs.Packets.{UpPacket, Resets, Requests, up_packet, framed_up, AreFramedAlike}

framed-up : (endpoint : ℕ) (packet : UpPacket) → up_packet (framed_up endpoint packet) ≡ packet
framed-up endpoint (Resets epoch version) = refl
framed-up endpoint (Requests packet) = refl

-- the upward packet of fields that may be a reset's
abbrev packet_with : Up → Bool → UpPacket
packet_with up reset =
    cond reset (Resets up.epoch up.version)
    (Requests (record { epoch = up.epoch; version = up.version; seq = up.seq; ack = record { high = up.high; mask = up.mask }; content = up.demands.items }))

framed-back : (endpoints : ℕ) (up : Up) → IsUp endpoints up → framed_up up.src (up_packet up) ≡ up
framed-back endpoints up (inl reset) = ap (λ b. framed_up up.src (packet_with up b)) (ap (λ (u : Up). u.reset) reset.blank) ∙ sym reset.blank
framed-back endpoints up (inr request) = ap (λ b. framed_up up.src (packet_with up b)) request.kind ∙ ap (λ b. record up { reset = b }) (sym request.kind)

pub are_framed_alike : AreFramedAlike
are_framed_alike = record {
  down = λ endpoint packet. refl;
  up = λ endpoint packet. framed-up endpoint packet;
  down_back = λ down. refl;
  up_back = λ endpoints up is. framed-back endpoints up is;
}
