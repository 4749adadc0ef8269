use Rattle.ack_window.proofs.BothEnds.{shown_was_taken, lost_is_never_taken, undecided_is_still_taken}
use Rattle.ack_window.proofs.laws.taking_stops_where_loss_starts.Goals as goal

pub returns : goal.returns
returns c = record {
  shown = shown_was_taken;
  lost = lost_is_never_taken;
  undecided = undecided_is_still_taken;
}
