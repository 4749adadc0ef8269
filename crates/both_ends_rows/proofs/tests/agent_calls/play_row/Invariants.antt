use Rattle.both_ends_rows.specs.Callers.{IsHeard}
use Rattle.both_ends_rows.proofs.tests.agent_calls.play_row.Given as goal

abbrev pub invariant-loop-round : goal.invariant-loop-round
invariant-loop-round g l = record {
  heard : IsHeard l.caller.agent l.caller.round l.caller.epoch l.caller.asked l.caller.batch l.caller.number;
}
