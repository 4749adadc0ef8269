use Rattle.std.proofs.Common.{◌≡◌, List, length, take, ◌∙◌, ap, subst, arith}
use Rattle.std.proofs.Math.Seq.{take-length}
use Rattle.fcp_framing.specs.declared.packet.Demand.{Demand as DemandItem}
use Rattle.endpoint_history.specs.Confirmed.{total_named}
use Rattle.arbiter_lane.specs.Lines.{Become, RisesTo}
use Rattle.arbiter_lane.proofs.Changes.{RisesTo-next}
use Rattle.arbiter_lane.proofs.flows.raise.Goals as goal

pub loop-demand-preserved : goal.loop-demand-preserved
loop-demand-preserved c = record {
  raised = RisesTo-next c.args.demands.now c.loop-demand.demand-index (record { dst = 0; total = 0 }) c.args.lines.now c.loop-demand.lines c.raise_one.new.lines c.loop-demand-test.true c.loop-demand.invariant.raised c.raise_one.ensures.raised;
  marked = λ before. c.raise_one.ensures.marked (c.loop-demand.invariant.marked before);
}

pub returns-clause-raised : goal.returns-clause-raised
returns-clause-raised c =
    let demands = c.args.demands.now in
    let whole : c.loop-demand.demand-index ≡ length demands = omega (arith, c.loop-demand-test.false, c.loop-demand.auto.demand-index-end) in
    subst (λ (xs : List DemandItem). Become (λ dst. RisesTo (total_named dst xs)) c.args.lines.now c.loop-demand.lines) (ap (λ n. take n demands) whole ∙ take-length demands) c.loop-demand.invariant.raised
