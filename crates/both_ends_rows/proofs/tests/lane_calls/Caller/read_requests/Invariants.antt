use Rattle.both_ends_rows.specs.Callers.{IsServed}
use Rattle.both_ends_rows.proofs.tests.lane_calls.Caller.read_requests.Given as goal

abbrev pub invariant-loop-packets : goal.invariant-loop-packets
invariant-loop-packets g l = record {
  served : IsServed l.self.lane l.self.dst l.self.round 1 l.self.before l.self.last;
}
