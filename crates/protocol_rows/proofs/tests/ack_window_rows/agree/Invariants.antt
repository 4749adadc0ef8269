use Rattle.std.proofs.Common.{◌≤◌}
use Rattle.protocol_rows.proofs.tests.ack_window_rows.agree.Given as goal

abbrev pub invariant-loop-round : goal.invariant-loop-round
invariant-loop-round g l = l.line.sender.outstanding.newest ≤ l.round
