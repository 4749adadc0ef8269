use Rattle.ack_window.proofs.Direction.{the_ends_agree, agreement_is_kept, lost_stays_untaken, packets_stay_their_senders}
use Rattle.ack_window.proofs.laws.both_ends_of_a_direction_agree.Goals as goal

pub returns : goal.returns
returns g c = record {
  always = the_ends_agree _;
  agreement = agreement_is_kept _;
  lost = lost_stays_untaken _;
  packets = packets_stay_their_senders _;
}
