use Rattle.std.proofs.Common.{◌≡◌, ◌+◌, ◌-◌, ◌++◌, List, ℕ, Option, sym, ap, ◌∙◌, inl, arith}
use Rattle.greedy_rules.specs.declared.flows.Flow.{Flow}
use Rattle.greedy_rules.specs.Cells.{flow_of}
use Rattle.clos_topology.specs.Network.{endpoints_of}
use Rattle.report_text.specs.declared.line.Line.{Line}
use Rattle.window_engine.specs.declared.counts.Counts.{Counts}
use Rattle.window_engine.specs.Batches.{plan_batches}
use Rattle.window_engine.specs.Counts.{counts_of}
use Rattle.run_lines.specs.Text.{text_of, flow_lines_of, flow_lines, each_destination}
use Rattle.text_output.proofs.OutputLemmas.{Passes-after, Passes-broken}
use Rattle.run_lines.proofs.FlowLemmas.{destination_more, destinations_whole}
use Rattle.run_lines.proofs.flows.put_source.Goals as goal

pub counts-requires-clause-stands : goal.counts-requires-clause-stands
counts-requires-clause-stands g c = (c.args.trace.now, c.requires.accepted, inl c.requires.stands)

pub loop-dst-preserved : goal.loop-dst-preserved
loop-dst-preserved g c =
    let trace = c.args.trace.now in
    let b : ℕ = c.args.engine.now.b in
    let lines : Flow → List Line = flow_lines b trace in
    let flow : Flow = flow_of c.args.src c.loop-dst.dst in
    let before : List ℕ = text_of (each_destination lines c.args.src 0 c.loop-dst.dst) in
    let told : c.counts.result ≡ counts_of b (plan_batches trace) flow = c.counts.ensures.planned trace c.requires.accepted c.requires.stands in
    Passes-after c.loop-dst.invariant c.in_ok-put_flow.ensures (destination_more lines c.args.src c.loop-dst.dst ∙ ap (λ (o : Option Counts). before ++ text_of (flow_lines_of flow o)) (sym told))

pub returns-in_err-put_flow : goal.returns-in_err-put_flow
returns-in_err-put_flow g c =
    let trace = c.args.trace.now in
    let b : ℕ = c.args.engine.now.b in
    let n : ℕ = endpoints_of trace.net in
    let lines : Flow → List Line = flow_lines b trace in
    let flow : Flow = flow_of c.args.src c.loop-dst.dst in
    let before : List ℕ = text_of (each_destination lines c.args.src 0 c.loop-dst.dst) in
    let later : List ℕ = text_of (each_destination lines c.args.src (0 + (c.loop-dst.dst + 1)) (n - (c.loop-dst.dst + 1))) in
    let told : c.counts.result ≡ counts_of b (plan_batches trace) flow = c.counts.ensures.planned trace c.requires.accepted c.requires.stands in
    Passes-broken _ c.loop-dst.invariant c.in_err-put_flow.ensures c.from_residual.ensures.1 (destinations_whole lines n c.args.src c.loop-dst.dst (omega (arith, c.endpoints-dst-end.ensures.number)) ∙ ap (λ (o : Option Counts). (before ++ text_of (flow_lines_of flow o)) ++ later) (sym told))
