-- What a lane stands for after a packet that changes nothing of it.
use Rattle.std.proofs.Common.{◌≡◌, ◌≢◌, ℕ, ◌≤◌, false, ◌==◌, List, ◌∷◌, ◌∙◌, sym, arith}
use Rattle.std.proofs.lemmas.Bool.{le-ltb, ne_eqb, and_right, and_left}
use Rattle.ack_window.specs.Ends.{Numbered}
use Rattle.fcp_framing.specs.declared.packet.Demand.{Demand}
use Rattle.endpoint_history.specs.Packets.{Resets, Requests}
use Rattle.endpoint_history.specs.Lane.{LaneHistory, TakesUp, epoch_of, version_of, restarts, is_current}
use Rattle.endpoint_history.specs.Counts.{Allocation}
use Rattle.endpoint_history.specs.CountLaws.{ReadingDecides, ResetsCountAnew}
use Rattle.arbiter_lane.specs.State.{LaneState}
use Rattle.arbiter_lane.specs.Standing.{LaneStandsFor}

-- a reset of no greater epoch
pub stands-reset_again : (laws : ResetsCountAnew) (lane : LaneState) (round epoch version : ℕ) (history : LaneHistory) (allocations : List Allocation) → epoch ≤ lane.epoch → LaneStandsFor lane history allocations →
    LaneStandsFor lane (TakesUp round (Resets epoch version) ∷ history) allocations
stands-reset_again laws lane round epoch version history allocations known stands =
    let stays : restarts history epoch ≡ false = le-ltb (epoch_of history) epoch (omega (arith, known, stands.epoch)) in
    record {
      epoch = omega (arith, known, stands.epoch);
      version = rw stays stands.version;
      last_reset = rw stays stands.last_reset;
      arrived = rw stays stands.arrived;
      sent = rw stays stands.sent;
      sent_version = rw stays stands.sent_version;
      flows = λ dst line here.
          let flow = stands.flows dst line here in
          let same = laws.as_before lane.g round epoch version history dst stays in
          record {
            demanded = flow.demanded ∙ sym same.0;
            allocated = rw stays flow.allocated;
            acknowledged = flow.acknowledged ∙ sym same.2;
            lost = flow.lost ∙ sym same.3;
            entered = rw stays flow.entered;
            opened = flow.opened;
          };
      round = stands.round;
      is_reset = rw stays stands.is_reset;
      recorded = stands.recorded;
    }

not_current-epoch : (history : LaneHistory) (packet : Numbered (List Demand)) → packet.epoch ≢ epoch_of history → is_current history packet ≡ false
unfolding is_current
not_current-epoch history packet other = and_left (packet.epoch == epoch_of history) (packet.version == version_of history) (ne_eqb packet.epoch (epoch_of history) other)

not_current-version : (history : LaneHistory) (packet : Numbered (List Demand)) → packet.version ≢ version_of history → is_current history packet ≡ false
unfolding is_current
not_current-version history packet other = and_right (packet.epoch == epoch_of history) (packet.version == version_of history) (ne_eqb packet.version (version_of history) other)

stands-other : (laws : ReadingDecides) (lane : LaneState) (round : ℕ) (packet : Numbered (List Demand)) (history : LaneHistory) (allocations : List Allocation) → is_current history packet ≡ false →
    LaneStandsFor lane history allocations → LaneStandsFor lane (TakesUp round (Requests packet) ∷ history) allocations
stands-other laws lane round packet history allocations other stands = record {
  epoch = stands.epoch;
  version = stands.version;
  last_reset = stands.last_reset;
  arrived = rw other stands.arrived;
  sent = rw other stands.sent;
  sent_version = stands.sent_version;
  flows = λ dst line here.
      let flow = stands.flows dst line here in
      let same = laws.refused lane.g round packet history dst other in
      record {
        demanded = flow.demanded ∙ sym same.2;
        allocated = flow.allocated;
        acknowledged = flow.acknowledged ∙ sym same.0;
        lost = flow.lost ∙ sym same.1;
        entered = flow.entered;
        opened = flow.opened;
      };
  round = stands.round;
  is_reset = stands.is_reset;
  recorded = stands.recorded;
}

-- a request of another epoch
pub stands-other_epoch : (laws : ReadingDecides) (lane : LaneState) (round : ℕ) (packet : Numbered (List Demand)) (history : LaneHistory) (allocations : List Allocation) → packet.epoch ≢ lane.epoch →
    LaneStandsFor lane history allocations → LaneStandsFor lane (TakesUp round (Requests packet) ∷ history) allocations
stands-other_epoch laws lane round packet history allocations other stands =
    stands-other laws lane round packet history allocations (not_current-epoch history packet (λ h. other (h ∙ sym stands.epoch))) stands

-- a request of the other version
pub stands-other_version : (laws : ReadingDecides) (lane : LaneState) (round : ℕ) (packet : Numbered (List Demand)) (history : LaneHistory) (allocations : List Allocation) → packet.version ≢ lane.version →
    LaneStandsFor lane history allocations → LaneStandsFor lane (TakesUp round (Requests packet) ∷ history) allocations
stands-other_version laws lane round packet history allocations other stands =
    stands-other laws lane round packet history allocations (not_current-version history packet (λ h. other (h ∙ sym stands.version))) stands
