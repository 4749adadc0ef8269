use Rattle.both_ends_rows.specs.Callers.{IsHeard}
use Rattle.both_ends_rows.proofs.tests.agent_calls.Caller.hear_all.Given as goal

abbrev pub invariant-loop-packets : goal.invariant-loop-packets
invariant-loop-packets g l = record {
  heard : IsHeard l.self.agent l.self.round l.self.epoch l.self.asked l.self.batch l.self.number;
}
