-- What an agent is promised.
use Rattle.endpoint_history.proofs.Issues.{each_telling_was_issued, comes_after_two_windows, one_number_for_a_batch}
use Rattle.endpoint_history.proofs.Once.{sent_once}
use Rattle.endpoint_history.proofs.laws.allocations_are_in_order.Goals as goal

pub returns : goal.returns
returns c = record {
  issued = each_telling_was_issued c.windows_hold.ensures;
  late = comes_after_two_windows c.windows_hold.ensures;
  one = one_number_for_a_batch c.windows_hold.ensures;
  sent_once = sent_once c.windows_hold.ensures;
}
