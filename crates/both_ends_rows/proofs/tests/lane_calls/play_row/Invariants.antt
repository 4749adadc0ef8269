use Rattle.both_ends_rows.specs.Callers.{IsServed}
use Rattle.both_ends_rows.proofs.tests.lane_calls.play_row.Given as goal

abbrev pub invariant-loop-round : goal.invariant-loop-round
invariant-loop-round g l = record {
  served : IsServed l.caller.lane l.caller.dst l.caller.round 0 l.caller.before l.caller.last;
}
