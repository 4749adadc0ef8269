use Rattle.std.proofs.Common.{◌≡◌, drop}
use Rattle.endpoint_agent.specs.Carrying.{greatest_shown}
use Rattle.endpoint_agent.proofs.agent.greatest_of.Given as goal

abbrev pub invariant-loop-decided : goal.invariant-loop-decided
invariant-loop-decided l =
    greatest_shown l.greatest (drop l.decided-index l.found) ≡ greatest_shown l.initial.greatest l.found
