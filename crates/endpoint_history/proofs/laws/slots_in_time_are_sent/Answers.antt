-- Slots in time are sent in.
use Rattle.endpoint_history.proofs.Totals.{in_time_is_asked}
use Rattle.endpoint_history.proofs.Sending.{sends_and_waiting_are_asked, none_is_passed_over}
use Rattle.endpoint_history.proofs.laws.slots_in_time_are_sent.Goals as goal

pub returns : goal.returns
returns c = record {
  in_time = in_time_is_asked c.windows_hold.ensures;
  sends = sends_and_waiting_are_asked c.windows_hold.ensures;
  none_passed = none_is_passed_over c.windows_hold.ensures;
}
