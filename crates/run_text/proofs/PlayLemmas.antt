-- A replay whose steps give nothing out: the cores that its steps name so far decide for which cores it stands.
use Rattle.std.proofs.Common.{◌≡◌, ◌≤◌, ◌+◌, ◌-◌, ◌*◌, ℕ, List, length, None, sym, ap, ◌∙◌, arith}
use Rattle.greedy_rules.specs.declared.flows.Flow.{Flow}
use Rattle.clos_topology.specs.NetSlots.{SlotCores, AreSlotCores}
use Rattle.trace_text.specs.Trace.{TraceContent}
use Rattle.trace_text.specs.Valid.{IsTrace}
use Rattle.replay_rounds.specs.Standing.{slots_between}
use Rattle.window_engine.specs.Step.{Span, StepContent}
use Rattle.run_text.specs.ReplayScheduled.{AgreeAbove}
use Rattle.run_text.proofs.CoreLemmas.{spliced}
use Rattle.run_text.proofs.ReplayCores.{limited, limited-named, places, spliced_named}
use Rattle.run_text.proofs.ReplayLoop.{agree_before, agree_in, agree_self}
use Rattle.run_text.proofs.ReplaySteps.{has_cores_of}
use Rattle.window_engine.specs.Standing.{EngineState, StandsForReplay, HasReplayedWindow, run_of}
use Rattle.run_lines.specs.Steps.{cores_of_step}
use Rattle.window_engine.proofs.EngineFacts.{replay_within}

-- it stands for all cores that agree with some for the slots that are published
abbrev pub StandsForSome : TraceContent → EngineState → Type 0
StandsForSome trace engine =
    (there : SlotCores) × AreSlotCores there
    × ((cores : SlotCores) → AreSlotCores cores → AgreeAbove 0 (engine.allocated * engine.b) cores there → StandsForReplay trace cores engine)

pub stands_itself : (trace : TraceContent) (engine : EngineState) → StandsForSome trace engine → (cores : SlotCores) × StandsForReplay trace cores engine
stands_itself trace engine (there, named, stands) = (there, stands there named (agree_self 0 (engine.allocated * engine.b) there))

pub stands_at_first : (trace : TraceContent) (engine : EngineState) → ((cores : SlotCores) → AreSlotCores cores → StandsForReplay trace cores engine) → StandsForSome trace engine
stands_at_first trace engine stands = (λ number source. None, λ number source. tt, λ cores named agree. stands cores named)

-- and a step later
pub stands_on : (trace : TraceContent) (old new : EngineState) (step : StepContent) → IsTrace trace → StandsForSome trace old → new.b ≡ old.b → ((cores : SlotCores) → StandsForReplay trace cores old → HasReplayedWindow trace cores old new step)
    → StandsForSome trace new
stands_on trace old new step sound (there, named, stands) same replayed =
    let b : ℕ = old.b in
    let first : ℕ = old.allocated in
    let rounds : ℕ = old.collected in
    let low : ℕ = first * b in
    let size : ℕ = (rounds - first) * b in
    let here : SlotCores = limited (cores_of_step b step) in
    let all : ℕ = new.allocated * new.b in
    let made = replayed there (stands there named (agree_self 0 low there)) in
    let behind : first ≤ rounds = (replay_within (stands there named (agree_self 0 low there))).behind in
    let end : low + size ≡ all = places first rounds b behind ∙ (ap (λ (n : ℕ). n * b) (sym made.allocated) ∙ ap (λ (n : ℕ). new.allocated * n) (sym same)) in
    let start : step.window.span.first ≡ first = ap (λ (s : Span). s.first) made.span in
    let count : step.window.span.count ≡ rounds - first = ap (λ (s : Span). s.count) made.span in (
      spliced low size here there,
      λ number source. spliced_named low size number source here there (limited-named (cores_of_step b step)) named,
      λ cores named' agree.
          let before : StandsForReplay trace cores old = stands cores named' (agree_before low size all cores here there (omega (arith, end)) agree) in
          let slots : List (List Flow) = slots_between (run_of trace cores old) first rounds in
          let window = (replayed cores before).window in
          let long : length slots ≡ size = window.number ∙ ap (λ (n : ℕ). n * b) count in
          (replayed cores before).stands (has_cores_of trace.net b first size slots step cores sound.net.most_cores start window long (agree_in low size all cores here there (omega (arith, end)) agree)),
    )
