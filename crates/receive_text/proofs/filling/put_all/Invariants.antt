use Rattle.std.proofs.Common.{◌≡◌, take}
use Rattle.trace_text.specs.Trace.{puts_at}
use Rattle.receive_text.proofs.filling.put_all.Given as goal

abbrev pub invariant-loop-at : goal.invariant-loop-at
invariant-loop-at l = l.seat ≡ record l.fn.seat { put = take l.at (puts_at l.trace l.fn.seat.endpoint) }
