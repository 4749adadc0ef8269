-- What a step of the engine gives, as it is given out.
use Rattle.std.proofs.Common.{◌≡◌, ◌≤◌, ◌+◌, ◌-◌, ◌*◌, ◌++◌, ℕ, List, length, take, drop, sym, ap, ◌∙◌, subst, arith}
use Rattle.std.proofs.lemmas.Nat.{mul-le}
use Rattle.std.proofs.lemmas.List.{length-take, length-drop}
use Rattle.list_facts.proofs.Numbers.{rows_on}
use Rattle.greedy_rules.specs.declared.flows.Flow.{Flow}
use Rattle.greedy_rules.specs.Batches.{DemandBatch}
use Rattle.greedy_rules.specs.Schedule.{first_slot, schedule}
use Rattle.clos_topology.specs.NetSlots.{SlotCores}
use Rattle.report_text.specs.declared.line.Line.{Line}
use Rattle.trace_text.specs.Trace.{TraceContent}
use Rattle.trace_text.specs.Valid.{IsTrace}
use Rattle.window_engine.specs.Batches.{plan_batches}
use Rattle.window_engine.specs.Scheduled.{AreClean}
use Rattle.window_engine.specs.Standing.{EngineState, StandsForPlan, engine_window}
use Rattle.window_engine.specs.Step.{StepContent, StepIsPlanned, EveryPlanHasItsSlots, window_slots}
use Rattle.run_lines.specs.Steps.{IsStepWindow, cores_of_step}
use Rattle.run_text.specs.Progress.{window_lines, rounds_lines}
use Rattle.run_text.specs.PlanText.{batches_lines}
use Rattle.run_lines.specs.Text.{text_of}
use Rattle.run_text.proofs.BatchTexts.{rounds_more, rounds_whole}
use Rattle.run_text.proofs.CoreLemmas.{spliced, rounds_spliced, window_spliced}
use Rattle.window_engine.proofs.EngineFacts.{plan_within}

here : (b : ℕ) (trace : TraceContent) (engine : EngineState) (step : StepContent) → engine.b ≡ b → StepIsPlanned trace engine.b engine.collected (engine_window engine) step → StepIsPlanned trace b engine.collected (engine_window engine) step
here b trace engine step size planned = subst (λ (n : ℕ). StepIsPlanned trace n engine.collected (engine_window engine) step) size planned

pub is_window : (b : ℕ) (trace : TraceContent) (engine : EngineState) (step : StepContent) → IsTrace trace → StandsForPlan trace engine → engine.b ≡ b → EveryPlanHasItsSlots → StepIsPlanned trace engine.b engine.collected (engine_window engine) step → IsStepWindow b step
is_window b trace engine step sound stands size counts planned =
    let n : ℕ = engine_window engine in
    let first : ℕ = engine.collected in
    let p = here b trace engine step size planned in
    let batches : List DemandBatch = plan_batches trace in
    let all : List (List Flow) = schedule b batches in
    let counted = counts b trace sound in
    let inside : first + n ≤ trace.rounds = omega (arith, (plan_within stands).rounds, (plan_within stands).within) in
    let rounds : step.window.span.first + step.window.span.count ≤ 100000 = omega (arith, p.first_allocated, p.allocated, sound.few_rounds) in
    let small : (step.window.span.first + step.window.span.count) * b ≤ 100000 * 64 = mul-le (step.window.span.first + step.window.span.count) b 100000 64 rounds (omega (arith, (plan_within stands).b.1)) in
    let low : ℕ = first * b in
    let many : ℕ = n * b in
    let within : (first + n) * b ≤ trace.rounds * b = mul-le (first + n) b trace.rounds b inside (omega arith) in
    let slots : length step.window.slots.slots ≡ many = omega (arith, ap length p.window.is, length-take many (drop low all), length-drop low all, counted.1, rows_on first n b) in
    record {
      same_batches = p.first_allocated ∙ sym p.first_collected;
      all_allocated = omega (arith, p.allocated, ap length p.batches, length-take n (drop first batches), length-drop first batches, counted.0);
      slots = slots ∙ ap (λ (m : ℕ). m * b) (sym p.allocated);
      few = omega (arith, p.allocated, (plan_within stands).g.1);
      numbers = omega arith;
      core_slots = p.window.core_slots ∙ (ap (λ (m : ℕ). m * b) p.allocated ∙ sym slots);
      core_endpoints = p.window.core_endpoints ∙ sym p.window.endpoints;
    }

pub step_clean : (b : ℕ) (trace : TraceContent) (engine : EngineState) (step : StepContent) → engine.b ≡ b → StepIsPlanned trace engine.b engine.collected (engine_window engine) step
    → AreClean trace.net (cores_of_step b step) (first_slot b engine.collected) (window_slots b (plan_batches trace) engine.collected (engine_window engine))
step_clean b trace engine step size planned =
    let p = here b trace engine step size planned in
    subst (λ (k : ℕ). AreClean trace.net (cores_of_step b step) (first_slot b k) (window_slots b (plan_batches trace) engine.collected (engine_window engine))) p.first_allocated p.window.clean

pub step_text : (b : ℕ) (trace : TraceContent) (engine : EngineState) (step : StepContent) → engine.b ≡ b → StepIsPlanned trace engine.b engine.collected (engine_window engine) step
    → text_of (batches_lines (cores_of_step b step) b step.window.span.first step.played.batches step.window.slots.slots) ≡ text_of (window_lines (cores_of_step b step) b engine.collected (engine_window engine) trace)
step_text b trace engine step size planned =
    let p = here b trace engine step size planned in
    ap (λ (k : ℕ). text_of (batches_lines (cores_of_step b step) b k step.played.batches step.window.slots.slots)) p.first_allocated
    ∙ (ap (λ (bs : List DemandBatch). text_of (batches_lines (cores_of_step b step) b engine.collected bs step.window.slots.slots)) p.batches
    ∙ ap (λ (xs : List (List Flow)). text_of (batches_lines (cores_of_step b step) b engine.collected (take (engine_window engine) (drop engine.collected (plan_batches trace))) xs)) p.window.is)

-- one window more, with its own cores
step_parts : (b : ℕ) (trace : TraceContent) (engine : EngineState) (here there : SlotCores) →
    let cores : SlotCores = spliced (engine.collected * b) (engine_window engine * b) here there in
    text_of (rounds_lines cores b engine.collected trace) ++ text_of (window_lines cores b engine.collected (engine_window engine) trace)
    ≡ text_of (rounds_lines there b engine.collected trace) ++ text_of (window_lines here b engine.collected (engine_window engine) trace)
step_parts b trace engine here there =
    let n : ℕ = engine_window engine in
    let cores : SlotCores = spliced (engine.collected * b) (n * b) here there in
    ap (λ (ls : List Line). text_of ls ++ text_of (window_lines cores b engine.collected n trace)) (rounds_spliced b engine.collected n trace here there)
    ∙ ap (λ (ls : List Line). text_of (rounds_lines there b engine.collected trace) ++ text_of ls) (window_spliced b engine.collected n trace here there)

pub rounds_step : (b : ℕ) (trace : TraceContent) (engine : EngineState) (round : ℕ) (here there : SlotCores) → IsTrace trace → StandsForPlan trace engine → EveryPlanHasItsSlots → round ≡ engine.collected + engine_window engine →
    let cores : SlotCores = spliced (engine.collected * b) (engine_window engine * b) here there in
    text_of (rounds_lines cores b round trace) ≡ text_of (rounds_lines there b engine.collected trace) ++ text_of (window_lines here b engine.collected (engine_window engine) trace)
rounds_step b trace engine round here there sound stands counts is =
    let n : ℕ = engine_window engine in
    let cores : SlotCores = spliced (engine.collected * b) (n * b) here there in
    let counted = counts b trace sound in
    let within : engine.collected + n ≤ length (plan_batches trace) = omega (arith, (plan_within stands).rounds, (plan_within stands).within, counted.0) in
    ap (λ (k : ℕ). text_of (rounds_lines cores b k trace)) is ∙ (rounds_more cores b engine.collected n trace within ∙ step_parts b trace engine here there)

pub rounds_stop : (b : ℕ) (trace : TraceContent) (engine : EngineState) (here there : SlotCores) → IsTrace trace → StandsForPlan trace engine → EveryPlanHasItsSlots →
    let cores : SlotCores = spliced (engine.collected * b) (engine_window engine * b) here there in
    text_of (rounds_lines cores b trace.rounds trace)
    ≡ (text_of (rounds_lines there b engine.collected trace) ++ text_of (window_lines here b engine.collected (engine_window engine) trace))
    ++ text_of (window_lines cores b (engine.collected + engine_window engine) (trace.rounds - (engine.collected + engine_window engine)) trace)
rounds_stop b trace engine here there sound stands counts =
    let n : ℕ = engine_window engine in
    let cores : SlotCores = spliced (engine.collected * b) (n * b) here there in
    let counted = counts b trace sound in
    rounds_whole cores b engine.collected n trace.rounds trace (omega (arith, (plan_within stands).rounds, (plan_within stands).within)) (omega (arith, counted.0))
    ∙ ap (λ (t : List ℕ). t ++ text_of (window_lines cores b (engine.collected + n) (trace.rounds - (engine.collected + n)) trace)) (step_parts b trace engine here there)
