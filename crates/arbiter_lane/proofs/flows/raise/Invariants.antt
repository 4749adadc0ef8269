use Rattle.std.proofs.Common.{take}
use Rattle.arbiter_lane.specs.Lines.{Become, RisesTo}
use Rattle.arbiter_lane.specs.Parts.{RisenAreMarked}
use Rattle.endpoint_history.specs.Confirmed.{total_named}
use Rattle.arbiter_lane.proofs.flows.raise.Given as goal

abbrev pub invariant-loop-demand : goal.invariant-loop-demand
invariant-loop-demand l = record {
  raised : Become (λ dst. RisesTo (total_named dst (take l.demand-index l.demands))) l.fn.lines l.lines;
  marked : RisenAreMarked l.fn.risen l.fn.lines → RisenAreMarked l.risen l.lines;
}
