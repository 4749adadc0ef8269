use Rattle.std.proofs.Common.{List, ℕ, arith}
use Rattle.greedy_rules.specs.declared.flows.Flow.{Flow}
use Rattle.clos_topology.specs.Network.{endpoints_of}
use Rattle.report_text.specs.declared.line.Line.{Line}
use Rattle.run_lines.specs.Text.{flow_lines}
use Rattle.text_output.proofs.OutputLemmas.{Passes-after, Passes-broken}
use Rattle.run_lines.proofs.FlowLemmas.{source_more, sources_whole}
use Rattle.run_lines.proofs.flows.put_flows.Goals as goal

pub loop-src-preserved : goal.loop-src-preserved
loop-src-preserved g c =
    let trace = c.args.trace.now in
    let b : ℕ = c.args.engine.now.b in
    let lines : Flow → List Line = flow_lines b trace in
    Passes-after c.loop-src.invariant c.in_ok-put_source.ensures (source_more lines (endpoints_of trace.net) c.loop-src.src)

pub returns-in_err-put_source : goal.returns-in_err-put_source
returns-in_err-put_source g c =
    let trace = c.args.trace.now in
    let b : ℕ = c.args.engine.now.b in
    let lines : Flow → List Line = flow_lines b trace in
    Passes-broken _ c.loop-src.invariant c.in_err-put_source.ensures c.from_residual.ensures.1 (sources_whole lines (endpoints_of trace.net) c.loop-src.src (omega (arith, c.endpoints-src-end.ensures.number)))
