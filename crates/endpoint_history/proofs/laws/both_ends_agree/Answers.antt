-- Both ends agree.
use Rattle.endpoint_history.proofs.BothEnds.{ends_agree}
use Rattle.endpoint_history.proofs.TakenOnce.{acknowledged_is_taken_once}
use Rattle.endpoint_history.proofs.TakenForGood.{acknowledged_slots_are_taken_once}
use Rattle.endpoint_history.proofs.NeverTaken.{lost_is_never_taken_in}
use Rattle.endpoint_history.proofs.NeverSent.{lost_is_never_sent}
use Rattle.endpoint_history.proofs.OneContent.{one_content_a_number}
use Rattle.endpoint_history.proofs.laws.both_ends_agree.Goals as goal

pub returns : goal.returns
returns c = record {
  numbers = ends_agree c.windows_hold.ensures;
  contents = one_content_a_number c.windows_hold.ensures;
  acknowledged = acknowledged_is_taken_once c.windows_hold.ensures;
  taken_once = acknowledged_slots_are_taken_once c.windows_hold.ensures;
  never_taken = lost_is_never_taken_in c.windows_hold.ensures;
  never_sent = lost_is_never_sent c.windows_hold.ensures;
}
