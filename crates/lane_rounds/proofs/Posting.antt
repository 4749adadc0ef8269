-- What is handed to a direction of the world.
use Rattle.std.proofs.Common.{◌≡◌, ℕ, ◌≤◌, Bool, true, false, cond, List, [], ◌∷◌, ◌++◌, Option, Some, None, option_map, unwrap_or, IfSome, take, sym, ◌∙◌, ap, subst, refl}
use Rattle.std.proofs.lemmas.List.{append-nil}
use Rattle.loss_world.specs.declared.fate.Fate.{Fate}
use Rattle.loss_world.specs.Arrivals.{Departure}
use Rattle.loss_world.specs.History.{WorldCall, Departs, asked_of, WorldStandsFor}
use Rattle.loss_world.specs.InTransit.{Held, with_packet}
use Rattle.fcp_framing.specs.declared.packet.Down.{Down}
use Rattle.fcp_framing.specs.Spelling.{SpellsDown, down_bytes}
use Rattle.endpoint_history.specs.Packets.{DownPacket, framed_down}
use Rattle.endpoint_history.specs.Reading.{RoundsAreReadInOrder}
use Rattle.endpoint_history.proofs.OneContent.{some-same}
use Rattle.lane_rounds.specs.Standing.{HasCarried, spell_down, IsDownOf}
use Rattle.lane_rounds.specs.Parts.{handed, with_packet_at_hand}

-- the bytes that are made are those of the packet
pub made-spells : (endpoint endpoints b : ℕ) (packet : Option DownPacket) (made : Option ℕ) (buf : List ℕ) →
    option_map (λ length. take length buf) made ≡ option_map (λ p. spell_down endpoint p) packet →
    IfSome packet (λ p. SpellsDown endpoints b (take (unwrap_or made 0) buf) (framed_down endpoint p)) →
    IfSome packet (IsDownOf endpoint endpoints b)
made-spells endpoint endpoints b None made buf same spelled = tt
made-spells endpoint endpoints b (Some p) None buf same spelled = absurd (cc)
made-spells endpoint endpoints b (Some p) (Some length) buf same spelled =
    subst (λ bytes. SpellsDown endpoints b bytes (framed_down endpoint p)) (some-same (take length buf) (spell_down endpoint p) same) spelled

pub carried-none : {T : Type 0} (spell : T → List ℕ) (world : Held) (round : ℕ) (fate : Option Fate) (packet : Option T) (departures : List Departure) →
    None ≡ option_map spell packet → HasCarried world round departures → HasCarried world round (departures ++ handed spell round fate packet)
carried-none spell world round fate None departures none it = subst (λ (ds : List Departure). HasCarried world round ds) (sym (append-nil departures)) it
carried-none spell world round fate (Some p) departures none it = absurd (cc)

pub carried-one : {T : Type 0} (ordered : RoundsAreReadInOrder) (spell : T → List ℕ) (world next : Held) (round : ℕ) (fate : Option Fate) (packet : Option T) (bytes : List ℕ) (departures : List Departure) →
    Some bytes ≡ option_map spell packet →
    ((history : List WorldCall) → WorldStandsFor world history → asked_of history ≤ round → WorldStandsFor next (Departs (record { round = round; fate = fate; bytes = bytes }) ∷ history)) →
    HasCarried world round departures → HasCarried next round (departures ++ handed spell round fate packet)
carried-one ordered spell world next round fate None bytes departures one sends it = absurd (cc)
carried-one ordered spell world next round fate (Some p) bytes departures one sends it = record {
  calls = Departs (record { round = round; fate = fate; bytes = bytes }) ∷ it.calls;
  stands = sends it.calls it.stands (ordered round 0 it.calls it.asked).asked;
  handed = ap (λ (ds : List Departure). ds ++ record { round = round; fate = fate; bytes = bytes } ∷ []) it.handed
      ∙ ap (λ bs. departures ++ record { round = round; fate = fate; bytes = bs } ∷ []) (some-same bytes (spell p) one);
  asked = it.asked;
}

-- ---- a packet that is filled in and not spelled

pub filled-spells : (endpoint endpoints b : ℕ) (packet : Option DownPacket) (filled : Bool) (down : Down) →
    option_map (framed_down endpoint) packet ≡ cond filled (Some down) None →
    (filled ≡ true → SpellsDown endpoints b (down_bytes down) down) →
    IfSome packet (IsDownOf endpoint endpoints b)
filled-spells endpoint endpoints b None filled down same spelled = tt
filled-spells endpoint endpoints b (Some p) false down same spelled = absurd (cc)
filled-spells endpoint endpoints b (Some p) true down same spelled =
    subst (λ (d : Down). SpellsDown endpoints b (down_bytes d) d) (sym (ap (λ o. unwrap_or o down) same)) (spelled refl)

filled-none : (endpoint : ℕ) (packet : Option DownPacket) → option_map (framed_down endpoint) packet ≡ None → None ≡ option_map (spell_down endpoint) packet
filled-none endpoint None same = refl
filled-none endpoint (Some p) same = absurd (cc)

filled-some : (endpoint : ℕ) (packet : Option DownPacket) (down : Down) → option_map (framed_down endpoint) packet ≡ Some down → Some (down_bytes down) ≡ option_map (spell_down endpoint) packet
filled-some endpoint None down same = absurd (cc)
filled-some endpoint (Some p) down same = sym (ap (λ o. Some (down_bytes (unwrap_or o down))) same)

pub filled-carried : (ordered : RoundsAreReadInOrder) (endpoint : ℕ) (world : Held) (round : ℕ) (fate : Option Fate) (packet : Option DownPacket) (filled : Bool) (down : Down) (departures : List Departure) →
    option_map (framed_down endpoint) packet ≡ cond filled (Some down) None →
    ((history : List WorldCall) → WorldStandsFor world history → asked_of history ≤ round → WorldStandsFor (with_packet round (down_bytes down) world) (Departs (record { round = round; fate = fate; bytes = down_bytes down }) ∷ history)) →
    HasCarried world round departures → HasCarried (with_packet_at_hand round filled down world) round (departures ++ handed (spell_down endpoint) round fate packet)
filled-carried ordered endpoint world round fate packet false down departures same sends it =
    carried-none (spell_down endpoint) world round fate packet departures (filled-none endpoint packet same) it
filled-carried ordered endpoint world round fate packet true down departures same sends it =
    carried-one ordered (spell_down endpoint) world (with_packet round (down_bytes down) world) round fate packet (down_bytes down) departures (filled-some endpoint packet down same) sends it
