use Rattle.takeover_rows.specs.Caller.{CallerHasTaken}
use Rattle.takeover_rows.proofs.tests.Caller.steps.Given as goal

abbrev pub invariant-loop-event : goal.invariant-loop-event
invariant-loop-event g l = CallerHasTaken l.self.pair l.self.endpoints l.self.count l.self.asks
