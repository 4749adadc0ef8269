use Rattle.std.proofs.Common.{◌≤◌, ◌-◌}
use Rattle.arbiter_lane.specs.Lines.{Become, IsEntered}
use Rattle.arbiter_lane.proofs.Changes.{UpTo}
use Rattle.arbiter_lane.proofs.flows.settle.Given as goal

abbrev pub invariant-loop-at : goal.invariant-loop-at
invariant-loop-at l = record {
  entered : Become (UpTo (λ dst. IsEntered) l.at) l.fn.lines l.lines;
  most : l.at ≤ 256;
}

abbrev pub decreases-loop-at : goal.decreases-loop-at
decreases-loop-at l = 256 - l.at
