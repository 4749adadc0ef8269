use Rattle.both_ends_rows.specs.Callers.{IsServed}
use Rattle.both_ends_rows.proofs.tests.lane_calls.read_all.Given as goal

abbrev pub invariant-loop-bytes : goal.invariant-loop-bytes
invariant-loop-bytes g l = record {
  served : IsServed l.caller.lane l.caller.dst l.caller.round 1 l.caller.before l.caller.last;
}
