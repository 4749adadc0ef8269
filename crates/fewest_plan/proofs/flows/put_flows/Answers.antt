use Rattle.std.proofs.Common.{ℕ, List, subst, sym, arith}
use Rattle.greedy_rules.specs.declared.flows.Flow.{Flow}
use Rattle.greedy_rules.specs.Demands.{HasEachFlowOnce, AreBelow}
use Rattle.greedy_rules.specs.Examples.{remaining}
use Rattle.clos_topology.specs.Network.{endpoints_of}
use Rattle.report_text.specs.declared.line.Line.{Line}
use Rattle.run_lines.proofs.FlowLemmas.{source_more, sources_whole}
use Rattle.run_lines.proofs.OutputLemmas.{Passes-after, Passes-broken}
use Rattle.fewest_plan.specs.Text.{flow_lines_by}
use Rattle.fewest_plan.proofs.FlowLemmas.{left_by}
use Rattle.fewest_plan.proofs.flows.put_flows.Goals as goal

pub write_needs-requires-clause-once : goal.write_needs-requires-clause-once
write_needs-requires-clause-once g c =
    let left = left_by c.args.trace.now c.args.planner.now c.requires.accepted c.requires.stands c.every_plan_is_recorded.ensures (c.recorded_batches_by_key.ensures.all remaining) c.requires.done in
    subst HasEachFlowOnce (sym c.items.ensures) left.once

pub write_needs-requires-clause-below : goal.write_needs-requires-clause-below
write_needs-requires-clause-below g c =
    let left = left_by c.args.trace.now c.args.planner.now c.requires.accepted c.requires.stands c.every_plan_is_recorded.ensures (c.recorded_batches_by_key.ensures.all remaining) c.requires.done in
    subst (λ (n : ℕ). AreBelow n c.items.result.now) (sym c.endpoints-endpoints.ensures.number) (subst (AreBelow (endpoints_of c.args.trace.now.net)) (sym c.items.ensures) left.below)

pub loop-src-preserved : goal.loop-src-preserved
loop-src-preserved g c =
    let trace = c.args.trace.now in
    let lines : Flow → List Line = flow_lines_by remaining c.args.planner.now.b trace in
    Passes-after c.loop-src.invariant c.in_ok-put_source.ensures (source_more lines (endpoints_of trace.net) c.loop-src.src)

pub returns-in_err-put_source : goal.returns-in_err-put_source
returns-in_err-put_source g c =
    let trace = c.args.trace.now in
    let lines : Flow → List Line = flow_lines_by remaining c.args.planner.now.b trace in
    Passes-broken _ c.loop-src.invariant c.in_err-put_source.ensures c.from_residual-in_err-put_source.ensures.1 (sources_whole lines (endpoints_of trace.net) c.loop-src.src (omega (arith, c.endpoints-endpoints.ensures.number)))
