use Rattle.std.proofs.Common.{◌≡◌, ◌≤◌, ◌+◌, ◌-◌, ◌++◌, List, ℕ, Option, IfSome, sym, ap, ◌∙◌, subst, inr, arith}
use Rattle.greedy_rules.specs.declared.flows.Flow.{Flow}
use Rattle.greedy_rules.specs.Cells.{flow_of}
use Rattle.clos_topology.specs.Network.{endpoints_of}
use Rattle.report_text.specs.declared.line.Line.{Line}
use Rattle.window_engine.specs.declared.counts.Counts.{Counts}
use Rattle.window_engine.specs.Replay.{replay_counts}
use Rattle.window_engine.specs.Standing.{run_of}
use Rattle.run_lines.specs.Text.{text_of, count_lines_of, count_lines, each_destination}
use Rattle.text_output.proofs.OutputLemmas.{Passes-after, Passes-broken, Passes-same}
use Rattle.run_lines.proofs.FlowLemmas.{destination_more, destinations_whole}
use Rattle.window_engine.proofs.EngineFacts.{replay_within}
use Rattle.run_lines.proofs.counts.put_source.Goals as goal

pub counts-requires-clause-stands : goal.counts-requires-clause-stands
counts-requires-clause-stands g c = (c.args.trace.now, c.requires.accepted, inr c.requires.stands)

pub put_count-requires : goal.put_count-requires
put_count-requires g c =
    let trace = c.args.trace.now in
    let (cores, stands) = c.requires.stands in
    let flow : Flow = flow_of c.args.src c.loop-dst.dst in
    subst (λ (counts : Option Counts). IfSome counts (λ c. c.acknowledged + c.lost ≤ c.allocated)) (sym (c.counts.ensures.replayed trace cores c.requires.accepted stands))
    (c.every_count_has_a_flight.ensures (run_of trace cores c.args.engine.now) trace.rounds flow (replay_within stands).g.0 c.requires.src (omega (arith, c.endpoints-dst-end.ensures.number)))

pub loop-dst-preserved : goal.loop-dst-preserved
loop-dst-preserved g c = λ cores stands.
    let trace = c.args.trace.now in
    let lines : Flow → List Line = count_lines (run_of trace cores c.args.engine.now) trace in
    let flow : Flow = flow_of c.args.src c.loop-dst.dst in
    let before : List ℕ = text_of (each_destination lines c.args.src 0 c.loop-dst.dst) in
    let told : c.counts.result ≡ replay_counts (run_of trace cores c.args.engine.now) trace.rounds flow = c.counts.ensures.replayed trace cores c.requires.accepted stands in
    Passes-after (c.loop-dst.invariant cores stands) c.in_ok-put_count.ensures (destination_more lines c.args.src c.loop-dst.dst ∙ ap (λ (o : Option Counts). before ++ text_of (count_lines_of flow o)) (sym told))

pub returns-in_err-put_count : goal.returns-in_err-put_count
returns-in_err-put_count g c = λ cores stands.
    let trace = c.args.trace.now in
    let n : ℕ = endpoints_of trace.net in
    let lines : Flow → List Line = count_lines (run_of trace cores c.args.engine.now) trace in
    let flow : Flow = flow_of c.args.src c.loop-dst.dst in
    let before : List ℕ = text_of (each_destination lines c.args.src 0 c.loop-dst.dst) in
    let later : List ℕ = text_of (each_destination lines c.args.src (0 + (c.loop-dst.dst + 1)) (n - (c.loop-dst.dst + 1))) in
    let told : c.counts.result ≡ replay_counts (run_of trace cores c.args.engine.now) trace.rounds flow = c.counts.ensures.replayed trace cores c.requires.accepted stands in
    Passes-broken _ (c.loop-dst.invariant cores stands) c.in_err-put_count.ensures c.from_residual.ensures.1 (destinations_whole lines n c.args.src c.loop-dst.dst (omega (arith, c.endpoints-dst-end.ensures.number)) ∙ ap (λ (o : Option Counts). (before ++ text_of (count_lines_of flow o)) ++ later) (sym told))

pub returns : goal.returns
returns g c = λ cores stands.
    let trace = c.args.trace.now in
    let lines : Flow → List Line = count_lines (run_of trace cores c.args.engine.now) trace in
    let ended : c.loop-dst.dst ≡ endpoints_of trace.net = omega (arith, c.endpoints-dst-end.ensures.number) in
    Passes-same (c.loop-dst.invariant cores stands) (ap (λ (n : ℕ). text_of (each_destination lines c.args.src 0 n)) ended)
