use Rattle.both_ends_rows.specs.Callers.{HasPlayedRounds}
use Rattle.both_ends_rows.proofs.tests.rounds.a_long_run_balances.Given as goal

abbrev pub invariant-loop-round : goal.invariant-loop-round
invariant-loop-round g l = record {
  played : HasPlayedRounds l.caller.rounds l.caller.dst l.caller.round l.caller.asked l.caller.before l.caller.last;
}
