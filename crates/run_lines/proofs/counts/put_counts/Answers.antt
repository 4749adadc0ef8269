use Rattle.std.proofs.Common.{◌≡◌, ℕ, List, ap, arith}
use Rattle.greedy_rules.specs.declared.flows.Flow.{Flow}
use Rattle.clos_topology.specs.Network.{endpoints_of}
use Rattle.report_text.specs.declared.line.Line.{Line}
use Rattle.window_engine.specs.Standing.{run_of}
use Rattle.run_lines.specs.Text.{text_of, count_lines, each_source}
use Rattle.text_output.proofs.OutputLemmas.{Passes-after, Passes-broken, Passes-same}
use Rattle.run_lines.proofs.FlowLemmas.{source_more, sources_whole}
use Rattle.run_lines.proofs.counts.put_counts.Goals as goal

pub loop-src-preserved : goal.loop-src-preserved
loop-src-preserved g c = λ cores stands.
    let trace = c.args.trace.now in
    let lines : Flow → List Line = count_lines (run_of trace cores c.args.engine.now) trace in
    Passes-after (c.loop-src.invariant cores stands) (c.in_ok-put_source.ensures cores stands) (source_more lines (endpoints_of trace.net) c.loop-src.src)

pub returns-in_err-put_source : goal.returns-in_err-put_source
returns-in_err-put_source g c = λ cores stands.
    let trace = c.args.trace.now in
    let lines : Flow → List Line = count_lines (run_of trace cores c.args.engine.now) trace in
    Passes-broken _ (c.loop-src.invariant cores stands) (c.in_err-put_source.ensures cores stands) c.from_residual.ensures.1 (sources_whole lines (endpoints_of trace.net) c.loop-src.src (omega (arith, c.endpoints-src-end.ensures.number)))

pub returns : goal.returns
returns g c = λ cores stands.
    let trace = c.args.trace.now in
    let lines : Flow → List Line = count_lines (run_of trace cores c.args.engine.now) trace in
    let ended : c.loop-src.src ≡ endpoints_of trace.net = omega (arith, c.endpoints-src-end.ensures.number) in
    Passes-same (c.loop-src.invariant cores stands) (ap (λ (n : ℕ). text_of (each_source lines (endpoints_of trace.net) 0 n)) ended)
