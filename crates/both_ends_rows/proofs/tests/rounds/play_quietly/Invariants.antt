use Rattle.both_ends_rows.specs.Callers.{HasPlayedRounds}
use Rattle.both_ends_rows.proofs.tests.rounds.play_quietly.Given as goal

abbrev pub invariant-loop : goal.invariant-loop
invariant-loop g l = record {
  played : HasPlayedRounds l.caller.rounds l.caller.dst l.caller.round l.caller.asked l.caller.before l.caller.last;
}
