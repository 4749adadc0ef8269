-- The text of a plan in its three parts: the rounds, the flows, the end; and of any text that ends so.
use Rattle.std.proofs.Common.{◌≡◌, ℕ, List, ◌∷◌, ◌++◌, [], take, ◌*◌, sym, ap, ◌∙◌, arith}
use Rattle.std.proofs.lemmas.List.{append_assoc, append-nil, take_all}
use Rattle.std.proofs.lemmas.List.Concat.{flat_map-append}
use Rattle.greedy_rules.specs.declared.flows.Flow.{Flow}
use Rattle.greedy_rules.specs.Batches.{DemandBatch}
use Rattle.greedy_rules.specs.Schedule.{schedule}
use Rattle.clos_topology.specs.NetSlots.{SlotCores}
use Rattle.report_text.specs.declared.line.Line.{Line}
use Rattle.report_text.specs.declared.line.Line.TheVariants as line
use Rattle.trace_text.specs.Trace.{TraceContent}
use Rattle.trace_text.specs.Valid.{IsTrace}
use Rattle.window_engine.specs.Batches.{plan_batches}
use Rattle.window_engine.specs.Step.{EveryPlanHasItsSlots}
use Rattle.run_text.specs.Progress.{rounds_lines}
use Rattle.run_text.specs.PlanText.{batches_lines, plan_text}
use Rattle.run_lines.specs.Text.{line_text, flows_lines, text_of}

abbrev pub end_text : TraceContent → List ℕ
end_text trace = line_text (line.End trace.rounds)

-- lines, and then the end
pub parts_with_end : (xs ys : List Line) (trace : TraceContent) → text_of xs ++ (text_of ys ++ end_text trace) ≡ text_of ((xs ++ ys) ++ line.End trace.rounds ∷ [])
parts_with_end xs ys trace =
    let end : List Line = line.End trace.rounds ∷ [] in
    ap (λ (t : List ℕ). text_of xs ++ (text_of ys ++ t)) (sym (append-nil (end_text trace)))
    ∙ (sym (append_assoc (text_of xs) (text_of ys) (text_of end))
    ∙ (ap (λ (t : List ℕ). t ++ text_of end) (sym (flat_map-append line_text xs ys)) ∙ sym (flat_map-append line_text (xs ++ ys) end)))

pub plan_parts : (cores : SlotCores) (trace : TraceContent) (b : ℕ) → IsTrace trace → EveryPlanHasItsSlots
    → text_of (rounds_lines cores b trace.rounds trace) ++ (text_of (flows_lines b trace) ++ end_text trace) ≡ plan_text cores b trace
plan_parts cores trace b accepted slots =
    let batches : List DemandBatch = plan_batches trace in
    let all : List (List Flow) = schedule b batches in
    let counts = slots b trace accepted in
    let size : ℕ = trace.rounds * b in
    let all_batches : take trace.rounds batches ≡ batches = take_all trace.rounds batches (omega (arith, counts.0)) in
    let all_slots : take size all ≡ all = take_all size all (omega (arith, counts.1)) in
    let rest : List ℕ = text_of (flows_lines b trace) ++ end_text trace in
    ap (λ (bs : List DemandBatch). text_of (batches_lines cores b 0 bs (take size all)) ++ rest) all_batches
    ∙ (ap (λ (xs : List (List Flow)). text_of (batches_lines cores b 0 batches xs) ++ rest) all_slots ∙ parts_with_end (batches_lines cores b 0 batches all) (flows_lines b trace) trace)
