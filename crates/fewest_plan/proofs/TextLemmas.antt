-- The text of a plan by need, window after window, and in its three parts.
use Rattle.std.proofs.Common.{◌≡◌, ◌≤◌, ◌+◌, ◌-◌, ◌*◌, ◌++◌, ℕ, List, [], length, take, drop, sym, ap, ◌∙◌, subst, arith}
use Rattle.std.proofs.lemmas.Nat.{mul-le}
use Rattle.std.proofs.lemmas.List.{length-take, length-drop, take_all}
use Rattle.std.proofs.lemmas.List.Concat.{flat_map-append}
use Rattle.list_facts.proofs.Numbers.{rows_on}
use Rattle.greedy_rules.specs.declared.flows.Flow.{Flow}
use Rattle.greedy_rules.specs.Batches.{DemandBatch}
use Rattle.greedy_rules.specs.Schedule.{schedule_by}
use Rattle.greedy_rules.specs.Examples.{remaining}
use Rattle.clos_topology.specs.NetSlots.{SlotCores}
use Rattle.trace_text.specs.Trace.{TraceContent}
use Rattle.trace_text.specs.Valid.{IsTrace}
use Rattle.plan_rounds.specs.Batches.{plan_batches}
use Rattle.run_lines.specs.Steps.{StepContent}
use Rattle.run_lines.specs.Text.{line_text, text_of}
use Rattle.run_text.specs.PlanText.{batches_lines}
use Rattle.run_text.proofs.BatchTexts.{front_more}
use Rattle.run_text.proofs.CoreLemmas.{spliced}
use Rattle.run_text.proofs.PlanLemmas.{end_text, parts_with_end}
use Rattle.fewest_plan.specs.declared.planner.Planner.{Planner}
use Rattle.fewest_plan.specs.declared.planner.Window.{Window}
use Rattle.fewest_plan.specs.Progress.{IsPlanWindow, cores_of_window, lines_of_window, fewest_window_lines, fewest_rounds_lines}
use Rattle.fewest_plan.specs.Scheduled.{EveryPlanHasItsSlotsBy}
use Rattle.fewest_plan.specs.Standing.{HasPlanned, IsPlanned, planner_window}
use Rattle.fewest_plan.specs.Text.{flows_lines_by, fewest_text}
use Rattle.fewest_plan.proofs.CoreLemmas.{rounds_spliced, window_spliced}

-- ---- a window

-- a window as a step of a plan
abbrev pub step_of : Window → StepContent
step_of window = record {
  collected = record { first = window.first; count = length window.batches.items };
  played = record { batches = window.batches.items; answers = []; departures = [] };
  window = record { span = record { first = window.first; count = length window.batches.items }; slots = window.slots; cores = window.cores };
}

pub is_window : (b : ℕ) (trace : TraceContent) (planner : Planner) (window : Window) → IsTrace trace → HasPlanned trace planner → EveryPlanHasItsSlotsBy remaining
    → planner.b ≡ b → IsPlanned trace planner.b planner.collection.rounds (planner_window trace planner) window → IsPlanWindow b window
is_window b trace planner window sound stands counts size planned =
    let n : ℕ = planner_window trace planner in
    let k : ℕ = planner.collection.rounds in
    let batches : List DemandBatch = plan_batches trace in
    let all : List (List Flow) = schedule_by remaining b batches in
    let p : IsPlanned trace b k n window = subst (λ (m : ℕ). IsPlanned trace m k n window) size planned in
    let counted = counts b trace sound in
    let inside : k + n ≤ trace.rounds = omega (arith, stands.collected.within) in
    let low : ℕ = k * b in
    let many : ℕ = n * b in
    let within : (k + n) * b ≤ trace.rounds * b = mul-le (k + n) b trace.rounds b inside (omega arith) in
    let slots : length window.slots.slots ≡ many = omega (arith, ap length p.slots, length-take many (drop low all), length-drop low all, counted.1, rows_on k n b) in
    let number : length window.batches.items ≡ n = omega (arith, ap length p.batches, length-take n (drop k batches), length-drop k batches, counted.0) in
    let end : window.first + length window.batches.items ≡ k + n = omega (arith, p.starts, number) in
    let small : (k + n) * b ≤ 100000 * 64 = mul-le (k + n) b 100000 64 (omega (arith, sound.few_rounds)) (omega (arith, stands.size.1, size)) in
    record {
      slots = slots ∙ ap (λ (m : ℕ). m * b) (sym number);
      few = omega (arith, number, stands.window.1);
      numbers = omega (arith, ap (λ (m : ℕ). m * b) end, small);
      core_slots = p.core_slots ∙ sym slots;
      core_endpoints = p.core_endpoints ∙ sym p.endpoints;
    }

pub window_text : (b k n : ℕ) (trace : TraceContent) (window : Window) → IsPlanned trace b k n window → text_of (lines_of_window b window) ≡ text_of (fewest_window_lines (cores_of_window b window) b k n trace)
window_text b k n trace window p =
    let cores : SlotCores = cores_of_window b window in
    λ i. text_of (batches_lines cores b (p.starts i) (p.batches i) (p.slots i))

-- ---- the rounds

rounds_more : (cores : SlotCores) (b k n : ℕ) (trace : TraceContent) → k + n ≤ length (plan_batches trace) → text_of (fewest_rounds_lines cores b (k + n) trace) ≡ text_of (fewest_rounds_lines cores b k trace) ++ text_of (fewest_window_lines cores b k n trace)
rounds_more cores b k n trace within =
    let same : 0 + k ≡ k = omega arith in
    let slots : List (List Flow) = schedule_by remaining b (plan_batches trace) in
    ap text_of (front_more cores b 0 k n (plan_batches trace) slots within
    ∙ ap (λ (m : ℕ). fewest_rounds_lines cores b k trace ++ batches_lines cores b m (take n (drop k (plan_batches trace))) (take (n * b) (drop (k * b) slots))) same)
    ∙ flat_map-append line_text (fewest_rounds_lines cores b k trace) (fewest_window_lines cores b k n trace)

-- one window more, with its own cores
step_parts : (b k n : ℕ) (trace : TraceContent) (here there : SlotCores) →
    let cores : SlotCores = spliced (k * b) (n * b) here there in
    text_of (fewest_rounds_lines cores b k trace) ++ text_of (fewest_window_lines cores b k n trace) ≡ text_of (fewest_rounds_lines there b k trace) ++ text_of (fewest_window_lines here b k n trace)
step_parts b k n trace here there = λ i. text_of (rounds_spliced b k n trace here there i) ++ text_of (window_spliced b k n trace here there i)

pub rounds_step : (b k n round : ℕ) (trace : TraceContent) (here there : SlotCores) → IsTrace trace → EveryPlanHasItsSlotsBy remaining → k + n ≤ trace.rounds → round ≡ k + n →
    let cores : SlotCores = spliced (k * b) (n * b) here there in
    text_of (fewest_rounds_lines cores b round trace) ≡ text_of (fewest_rounds_lines there b k trace) ++ text_of (fewest_window_lines here b k n trace)
rounds_step b k n round trace here there sound counts inside is =
    let cores : SlotCores = spliced (k * b) (n * b) here there in
    let counted = counts b trace sound in
    ap (λ (m : ℕ). text_of (fewest_rounds_lines cores b m trace)) is ∙ (rounds_more cores b k n trace (omega (arith, counted.0)) ∙ step_parts b k n trace here there)

-- and the windows after it
pub rounds_stop : (b k n : ℕ) (trace : TraceContent) (here there : SlotCores) → IsTrace trace → EveryPlanHasItsSlotsBy remaining → k + n ≤ trace.rounds →
    let cores : SlotCores = spliced (k * b) (n * b) here there in
    text_of (fewest_rounds_lines cores b trace.rounds trace)
    ≡ (text_of (fewest_rounds_lines there b k trace) ++ text_of (fewest_window_lines here b k n trace)) ++ text_of (fewest_window_lines cores b (k + n) (trace.rounds - (k + n)) trace)
rounds_stop b k n trace here there sound counts inside =
    let cores : SlotCores = spliced (k * b) (n * b) here there in
    let counted = counts b trace sound in
    let rest : ℕ = trace.rounds - (k + n) in
    let parts : trace.rounds ≡ (k + n) + rest = omega arith in
    let same : k + n ≡ k + n = omega arith in
    ap (λ (m : ℕ). text_of (fewest_rounds_lines cores b m trace)) parts
    ∙ (rounds_more cores b (k + n) rest trace (omega (arith, counted.0))
    ∙ ap (λ (t : List ℕ). t ++ text_of (fewest_window_lines cores b (k + n) rest trace)) (rounds_step b k n (k + n) trace here there sound counts inside same))

-- ---- the whole

pub plan_parts : (cores : SlotCores) (trace : TraceContent) (b : ℕ) → IsTrace trace → EveryPlanHasItsSlotsBy remaining
    → text_of (fewest_rounds_lines cores b trace.rounds trace) ++ (text_of (flows_lines_by remaining b trace) ++ end_text trace) ≡ fewest_text cores b trace
plan_parts cores trace b accepted slots =
    let batches : List DemandBatch = plan_batches trace in
    let all : List (List Flow) = schedule_by remaining b batches in
    let counts = slots b trace accepted in
    let size : ℕ = trace.rounds * b in
    let all_batches : take trace.rounds batches ≡ batches = take_all trace.rounds batches (omega (arith, counts.0)) in
    let all_slots : take size all ≡ all = take_all size all (omega (arith, counts.1)) in
    let rest : List ℕ = text_of (flows_lines_by remaining b trace) ++ end_text trace in
    ap (λ (bs : List DemandBatch). text_of (batches_lines cores b 0 bs (take size all)) ++ rest) all_batches
    ∙ (ap (λ (xs : List (List Flow)). text_of (batches_lines cores b 0 batches xs) ++ rest) all_slots ∙ parts_with_end (batches_lines cores b 0 batches all) (flows_lines_by remaining b trace) trace)
