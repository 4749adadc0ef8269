use Rattle.std.proofs.Common.{◌≤◌}
use Rattle.protocol_rows.proofs.tests.ack_window_rows.sent.Given as goal

abbrev pub invariant-loop-round : goal.invariant-loop-round
invariant-loop-round l = l.window.outstanding.newest ≤ l.round
