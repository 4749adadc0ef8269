use Rattle.ack_window.proofs.Taking.{verdict-old, verdict-repeat, verdict-fresh, fresh-new, is_taken-fresh, is_taken-stale, is_taken-other, came-taken, is_taken-came, is_taken-above}
use Rattle.ack_window.proofs.BothEnds.{highest-later, never_taken}
use Rattle.ack_window.proofs.Direction.{taken-later}
use Rattle.ack_window.proofs.laws.each_number_is_taken_once.Goals as goal

pub returns : goal.returns
returns c = record {
  verdicts = record { old = verdict-old; repeat = verdict-repeat; fresh = verdict-fresh };
  once = record { first = fresh-new; fresh = is_taken-fresh; stale = is_taken-stale; other = is_taken-other };
  come = record { come = came-taken; near = is_taken-came; above = is_taken-above };
  for_good = record { grows = highest-later; taken = taken-later; never = never_taken };
}
