-- What the lane's calls keep of its end, and that each packet that it made since the last reset is of its end.
use Rattle.std.proofs.Common.{◌≡◌, ℕ, ◌≤◌, Bool, true, false, ◌&&◌, cond, nat_lt, ◌==◌, List, [], ◌∷◌, Some, None, sym, ◌∙◌, ap, subst, refl, inl, inr, arith}
use Rattle.std.specs.Prelude.{unwrap_or, max}
use Rattle.std.proofs.lemmas.Bool.{cases_Bool, cases_lt, eqb-true, and_parts, ltb-true, lt-ltb}
use Rattle.ack_window.specs.Arrivals.{acknowledgement}
use Rattle.ack_window.specs.Ends.{Numbered, IsOf}
use Rattle.ack_window.specs.Outstanding.{may_send_new}
use Rattle.ack_window.specs.Sends.{Event, Sends, Reads, newest_of, newest_content, open_numbers}
use Rattle.ack_window.specs.Versions.{reorder_of, span_of}
use Rattle.fcp_framing.specs.declared.packet.Demand.{Demand}
use Rattle.fcp_framing.specs.declared.packet.Told.{Told}
use Rattle.endpoint_history.specs.Packets.{Telling, DownPacket, Resets, Requests}
use Rattle.endpoint_history.specs.Lane.{LaneEvent, LaneHistory, MakesDown, TakesUp, Records, epoch_of, version_of, restarts, is_current, arrived, telling_in, may_send, numbers, packet_down}
use Rattle.endpoint_history.specs.Steps.{WasMadeDown}
use Rattle.endpoint_history.specs.BothEnds.{End, lane_end, IsOfEnd}
use Rattle.endpoint_history.specs.Windows.{Windows}

pub current-parts : (history : LaneHistory) (packet : Numbered (List Demand)) → is_current history packet ≡ true → (packet.epoch ≡ epoch_of history) × (packet.version ≡ version_of history)
unfolding is_current
current-parts history packet h =
    let parts = and_parts (packet.epoch == epoch_of history) (packet.version == version_of history) h in
    (eqb-true packet.epoch (epoch_of history) parts.0, eqb-true packet.version (version_of history) parts.1)

pub may-sends : (history : LaneHistory) (sent : List (Event Telling)) → nat_lt 0 (epoch_of history) && may_send history sent ≡ true →
    may_send_new (span_of (version_of history)) (newest_of sent) (open_numbers (reorder_of (version_of history)) (span_of (version_of history)) sent) ≡ true
unfolding may_send
may-sends history sent h = (and_parts (nat_lt 0 (epoch_of history)) _ h).1

stopped : (history : LaneHistory) (sent : List (Event Telling)) → nat_lt 0 (epoch_of history) ≡ true → nat_lt 0 (epoch_of history) && may_send history sent ≡ false →
    may_send_new (span_of (version_of history)) (newest_of sent) (open_numbers (reorder_of (version_of history)) (span_of (version_of history)) sent) ≡ false
unfolding may_send
stopped history sent begun h = sym (ap (λ b. b && may_send history sent) begun) ∙ h

-- a reset of no greater epoch changes nothing of the end
pub end-stays : (g round epoch version : ℕ) (history : LaneHistory) → restarts history epoch ≡ false → lane_end g (TakesUp round (Resets epoch version) ∷ history) ≡ lane_end g history
end-stays g round epoch version history old =
    let low : max epoch (epoch_of history) ≡ epoch_of history =
    elim (cases_lt (epoch_of history) epoch) [
      | inl greater ↦ let yes = lt-ltb (epoch_of history) epoch greater in absurd (cc)
      | inr lower ↦ omega arith
    ] in
    rw (old, low) refl

-- one of a greater epoch starts it anew
pub end-restarts : (g round epoch version : ℕ) (history : LaneHistory) → restarts history epoch ≡ true →
    lane_end g (TakesUp round (Resets epoch version) ∷ history) ≡ record { epoch = epoch; version = version; sent = []; arrived = [] }
end-restarts g round epoch version history new =
    let greater = ltb-true (epoch_of history) epoch new in
    let high : max epoch (epoch_of history) ≡ epoch = omega arith in
    rw (new, high) refl

-- ---- the packets that it made

-- a packet has no epoch above the lane's, and it is of the lane's end where it has its epoch
pub record WasMade (g : ℕ) (history : LaneHistory) (packet : DownPacket) : Type 0 where
  pub known : packet.epoch ≤ epoch_of history
  pub of_end : packet.epoch ≡ epoch_of history → IsOfEnd (lane_end g history) packet

WasMade-end : (g : ℕ) (event : LaneEvent) (history : LaneHistory) (packet : DownPacket) → lane_end g (event ∷ history) ≡ lane_end g history → WasMade g history packet → WasMade g (event ∷ history) packet
WasMade-end g event history packet same made =
    let epochs = ap (λ (e : End Telling). e.epoch) same in
    let known = made.known in
    record {
      known = omega arith;
      of_end = λ h. subst (λ (e : End Telling). IsOfEnd e packet) (sym same) (made.of_end (h ∙ epochs));
    }

WasMade-later : (w : Windows) (g : ℕ) (event : LaneEvent) (history : LaneHistory) (packet : DownPacket) → WasMade g history packet → WasMade g (event ∷ history) packet
WasMade-later w g (Records round) history packet made = record { known = made.known; of_end = made.of_end }
WasMade-later w g (MakesDown round told) history packet made =
    record {
      known = made.known;
      of_end = λ h.
          let is = made.of_end h in (
            is.0,
            is.1,
            elim (nat_lt 0 (epoch_of history) && may_send history (numbers g history))
                as (λ b. IsOf (reorder_of (version_of history)) (span_of (version_of history)) (cond b (Sends (telling_in g history round told) ∷ numbers g history) (numbers g history)) (arrived history) packet) [
                  | true ↦ w.down_packets.sends (reorder_of (version_of history)) (span_of (version_of history)) (numbers g history) (arrived history) (telling_in g history round told) packet is.2
                  | false ↦ is.2
                ],
          );
    }
WasMade-later w g (TakesUp round (Requests request)) history packet made =
    record {
      known = made.known;
      of_end = λ h.
          let is = made.of_end h in (
            is.0,
            is.1,
            elim (is_current history request)
                as (λ b. IsOf (reorder_of (version_of history)) (span_of (version_of history)) (cond b (Reads request.ack ∷ numbers g history) (numbers g history)) (cond b (request.seq ∷ arrived history) (arrived history)) packet) [
                  | true ↦
                      w.down_packets.reads (reorder_of (version_of history)) (span_of (version_of history)) (numbers g history) (request.seq ∷ arrived history) request.ack packet
                      (w.down_packets.arrives (reorder_of (version_of history)) (span_of (version_of history)) (numbers g history) (arrived history) request.seq packet is.2)
                  | false ↦ is.2
                ],
          );
    }
WasMade-later w g (TakesUp round (Resets epoch version)) history packet made =
    elim (cases_Bool (restarts history epoch)) [
      | inr old ↦ WasMade-end g (TakesUp round (Resets epoch version)) history packet (end-stays g round epoch version history old) made
      | inl new ↦
          let greater = ltb-true (epoch_of history) epoch new in
          let known = made.known in
          record { known = omega arith; of_end = λ h. absurd (omega arith) }
    ]

abbrev pub packet_made : ℕ → LaneHistory → ℕ → List Told → DownPacket
packet_made g history round told = record {
  epoch = epoch_of history;
  version = version_of history;
  seq = newest_of (numbers g (MakesDown round told ∷ history));
  ack = acknowledgement (reorder_of (version_of history)) (span_of (version_of history)) (arrived history);
  content = unwrap_or (newest_content (numbers g (MakesDown round told ∷ history))) (record { batch = 0; told = [] });
}

pub packet_made-is_of : (w : Windows) (g : ℕ) (history : LaneHistory) (round : ℕ) (told : List Told) → nat_lt 0 (epoch_of history) ≡ true →
    IsOf (reorder_of (version_of history)) (span_of (version_of history)) (numbers g (MakesDown round told ∷ history)) (arrived history) (packet_made g history round told)
packet_made-is_of w g history round told begun =
    record {
      counted = counted;
      known = omega arith;
      content = w.down_newest.content (numbers g (MakesDown round told ∷ history)) (record { batch = 0; told = [] }) counted;
      reads = record { later = []; earlier = arrived history; parts = refl; told = refl };
    }
  where
    counted : 1 ≤ newest_of (numbers g (MakesDown round told ∷ history))
    counted = elim (cases_Bool (nat_lt 0 (epoch_of history) && may_send history (numbers g history))) [
      | inl new ↦ rw new (omega arith)
      | inr again ↦
          rw again
          (w.down_newest.counted (reorder_of (version_of history)) (span_of (version_of history)) (numbers g history)
          (stopped history (numbers g history) begun again))
    ]

pub some_packet : (begun : Bool) (made packet : DownPacket) → cond begun (Some made) None ≡ Some packet → (begun ≡ true) × (made ≡ packet)
some_packet true made packet h = (refl, cc)
some_packet false made packet h = absurd (cc)

pub packet_down-is : (g : ℕ) (history : LaneHistory) (round : ℕ) (told : List Told) (packet : DownPacket) → packet_down g history round told ≡ Some packet → (nat_lt 0 (epoch_of history) ≡ true) × (packet_made g history round told ≡ packet)
unfolding packet_down
packet_down-is g history round told packet h = some_packet (nat_lt 0 (epoch_of history)) (packet_made g history round told) packet h

packet-made : (w : Windows) (g : ℕ) (history : LaneHistory) (round : ℕ) (told : List Told) (packet : DownPacket) → packet_down g history round told ≡ Some packet → WasMade g (MakesDown round told ∷ history) packet
unfolding packet_down
packet-made w g history round told packet h =
    let parts = some_packet (nat_lt 0 (epoch_of history)) (packet_made g history round told) packet h in
    subst (λ (p : DownPacket). WasMade g (MakesDown round told ∷ history) p) parts.1
    (record { known = omega arith; of_end = λ same. (refl, refl, packet_made-is_of w g history round told parts.0) })

pub made-was_made : (w : Windows) (g : ℕ) (history : LaneHistory) (packet : DownPacket) → WasMadeDown g history packet → WasMade g history packet
made-was_made w g [] packet made = absurd made
made-was_made w g (MakesDown round told ∷ history) packet made =
    elim made [
      | inl now ↦ packet-made w g history round told packet now
      | inr before ↦ WasMade-later w g (MakesDown round told) history packet (made-was_made w g history packet before)
    ]
made-was_made w g (TakesUp round up ∷ history) packet made = WasMade-later w g (TakesUp round up) history packet (made-was_made w g history packet made)
made-was_made w g (Records round ∷ history) packet made = WasMade-later w g (Records round) history packet (made-was_made w g history packet made)
