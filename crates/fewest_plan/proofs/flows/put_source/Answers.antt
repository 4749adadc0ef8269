use Rattle.std.proofs.Common.{◌≡◌, ◌<◌, ◌+◌, ◌-◌, ◌++◌, List, ℕ, Option, get_or, sym, ap, ◌∙◌, arith}
use Rattle.greedy_rules.specs.declared.flows.Flow.{Flow}
use Rattle.greedy_rules.specs.Demands.{item_of, need_in}
use Rattle.greedy_rules.specs.Examples.{remaining}
use Rattle.greedy_rules.specs.Cells.{flow_of}
use Rattle.clos_topology.specs.Network.{endpoints_of}
use Rattle.report_text.specs.declared.line.Line.{Line}
use Rattle.run_lines.specs.Text.{Counts, text_of, flow_lines_of, each_destination}
use Rattle.run_lines.proofs.FlowLemmas.{destination_more, destinations_whole}
use Rattle.run_lines.proofs.OutputLemmas.{Passes-after, Passes-broken}
use Rattle.window_allocation.specs.Needs.{place_of}
use Rattle.fewest_plan.specs.Text.{flow_lines_by}
use Rattle.fewest_plan.proofs.FlowLemmas.{told}
use Rattle.fewest_plan.proofs.flows.put_source.Goals as goal

pub loop-dst-preserved : goal.loop-dst-preserved
loop-dst-preserved g c =
    let trace = c.args.trace.now in
    let planner = c.args.planner.now in
    let src : ℕ = c.args.src in
    let dst : ℕ = c.loop-dst.dst in
    let lines : Flow → List Line = flow_lines_by remaining planner.b trace in
    let flow : Flow = flow_of src dst in
    let before : List ℕ = text_of (each_destination lines src 0 dst) in
    let below : dst < endpoints_of trace.net = omega (arith, c.endpoints-endpoints.ensures.number) in
    let left : ℕ = get_or c.args.pending.now c.place.result 0 in
    let left_is : left ≡ need_in (item_of planner.order.items flow) =
    ap (λ (p : ℕ). get_or c.args.pending.now p 0) (c.place.ensures.place ∙ ap (λ (m : ℕ). place_of m src dst) c.endpoints-endpoints.ensures.number) ∙ c.requires.pending.at src dst c.requires.src below in
    let it = told trace planner src dst c.asked.result left c.requires.accepted c.requires.stands c.every_plan_is_recorded.ensures c.every_plan_adds_what_is_asked.ensures (c.every_plan_balances.ensures remaining) c.requires.done c.requires.src below c.asked.ensures left_is in
    Passes-after c.loop-dst.invariant c.in_ok-put_flow.ensures (destination_more lines src dst ∙ ap (λ (o : Option Counts). before ++ text_of (flow_lines_of flow o)) (sym it.same))

pub returns-in_err-put_flow : goal.returns-in_err-put_flow
returns-in_err-put_flow g c =
    let trace = c.args.trace.now in
    let planner = c.args.planner.now in
    let src : ℕ = c.args.src in
    let dst : ℕ = c.loop-dst.dst in
    let n : ℕ = endpoints_of trace.net in
    let lines : Flow → List Line = flow_lines_by remaining planner.b trace in
    let flow : Flow = flow_of src dst in
    let before : List ℕ = text_of (each_destination lines src 0 dst) in
    let later : List ℕ = text_of (each_destination lines src (0 + (dst + 1)) (n - (dst + 1))) in
    let below : dst < n = omega (arith, c.endpoints-endpoints.ensures.number) in
    let left : ℕ = get_or c.args.pending.now c.place.result 0 in
    let left_is : left ≡ need_in (item_of planner.order.items flow) =
    ap (λ (p : ℕ). get_or c.args.pending.now p 0) (c.place.ensures.place ∙ ap (λ (m : ℕ). place_of m src dst) c.endpoints-endpoints.ensures.number) ∙ c.requires.pending.at src dst c.requires.src below in
    let it = told trace planner src dst c.asked.result left c.requires.accepted c.requires.stands c.every_plan_is_recorded.ensures c.every_plan_adds_what_is_asked.ensures (c.every_plan_balances.ensures remaining) c.requires.done c.requires.src below c.asked.ensures left_is in
    Passes-broken _ c.loop-dst.invariant c.in_err-put_flow.ensures c.from_residual.ensures.1 (destinations_whole lines n src dst below ∙ ap (λ (o : Option Counts). (before ++ text_of (flow_lines_of flow o)) ++ later) (sym it.same))
