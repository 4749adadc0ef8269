use Rattle.std.proofs.Common.{◌≡◌, ◌≤◌, ◌-◌}
use Rattle.endpoint_agent.specs.Lines.{unconfirmed_in}
use Rattle.endpoint_agent.specs.State.{UnconfirmedAreMarked}
use Rattle.endpoint_agent.proofs.lines.name_unconfirmed.Given as goal

abbrev pub invariant-loop-dst : goal.invariant-loop-dst
invariant-loop-dst l = record {
  named : l.demands.items ≡ unconfirmed_in l.acknowledged l.dst l.lines;
  marked : UnconfirmedAreMarked l.acknowledged l.unconfirmed l.lines;
  most : l.dst ≤ 256;
}

abbrev pub decreases-loop-dst : goal.decreases-loop-dst
decreases-loop-dst l = 256 - l.dst
