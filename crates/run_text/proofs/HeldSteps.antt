-- A step of a replay that is held: its lines may be given out, and they are the next ones of the run.
use Rattle.std.proofs.Common.{◌≡◌, ◌≤◌, ◌+◌, ◌-◌, ◌*◌, ℕ, List, length, Some, Result, Ok, Err, IfErr, IsErrAnd, sym, ap, ◌∙◌, subst, arith}
use Rattle.greedy_rules.specs.declared.flows.Flow.{Flow}
use Rattle.clos_topology.specs.NetSlots.{SlotCores}
use Rattle.trace_text.specs.Trace.{TraceContent}
use Rattle.trace_text.specs.Valid.{IsTrace}
use Rattle.replay_rounds.specs.Played.{EveryRefusalHasANumber}
use Rattle.replay_rounds.specs.Standing.{slots_between}
use Rattle.text_output.specs.declared.output.Stop.{Stop}
use Rattle.run_lines.specs.Content.{OutputContent}
use Rattle.run_lines.specs.Output.{Passes}
use Rattle.run_lines.specs.Steps.{cores_of_step}
use Rattle.run_text.specs.ReplayProgress.{HasSlots, MayGiveHeld, HoldsStep}
use Rattle.run_text.proofs.ReplayCores.{limited, limited-named}
use Rattle.run_text.proofs.ReplaySteps.{is_played, has_slots, window_clean, has_cores_of, next_text}
use Rattle.window_engine.specs.Standing.{EngineState, StandsForReplay, HasStepped, HasReplayedWindow, run_of, engine_window}
use Rattle.window_engine.specs.Step.{Span, StepContent}
use Rattle.window_engine.proofs.EngineFacts.{replay_within}

pub may_give : (b : ℕ) (trace : TraceContent) (cores : SlotCores) (old new : EngineState) (step : StepContent) → EveryRefusalHasANumber → IsTrace trace → StandsForReplay trace cores old → old.b ≡ b
    → HasStepped old new step → HasReplayedWindow trace cores old new step → MayGiveHeld b (Some step)
may_give b trace cores old new step names sound stands size stepped made =
    let count : ℕ = engine_window old in
    let within : old.collected + count ≤ trace.rounds = omega (arith, (replay_within stands).rounds, (replay_within stands).within) in (
      is_played (run_of trace cores old) trace old.collected count step names sound within (ap (λ (s : Span). s.first) stepped.span) made.played,
      subst (λ (n : ℕ). HasSlots n step) size (has_slots trace cores old step sound stands made.span made.window),
    )

pub holds_step : (b : ℕ) (trace : TraceContent) (old new : EngineState) (step : StepContent) → IsTrace trace → old.b ≡ b → HasStepped old new step
    → ((cores : SlotCores) → StandsForReplay trace cores old → HasReplayedWindow trace cores old new step) → HoldsStep b trace old new step
holds_step b trace old new step sound size stepped replayed =
    let own : ℕ = old.b in
    let first : ℕ = old.allocated in
    let rounds : ℕ = old.collected in
    let few = sound.net.most_cores in
    let Holds : ℕ → Type 0 = λ n. HoldsStep n trace old new step in
    subst Holds size (λ there makes stands.
    let made = replayed there stands in
    let start : step.window.span.first ≡ first = ap (λ (s : Span). s.first) made.span in
    let count : step.window.span.count ≡ rounds - first = ap (λ (s : Span). s.count) made.span in (
      limited (cores_of_step own step),
      limited-named (cores_of_step own step),
      window_clean trace.net own first (slots_between (run_of trace there old) first rounds) step.window few start made.window,
      λ cores stands' agree.
          let made' = replayed cores stands' in
          let slots : List (List Flow) = slots_between (run_of trace cores old) first rounds in
          let long : length slots ≡ (rounds - first) * own = made'.window.number ∙ ap (λ (n : ℕ). n * own) count in (
            made'.stands (has_cores_of trace.net own first ((rounds - first) * own) slots step cores few start made'.window long agree),
            next_text trace cores old step ((rounds - first) * own) sound (ap (λ (s : Span). s.first) stepped.span) made'.played start made'.window long agree,
          ),
    ))

-- a text that stopped, as it is seen when its cause is passed on
pub stopped_with : {A : Type 0} {before after seen : OutputContent} {text : List ℕ} {e : Stop} {written told : Result (Unit {0}) Stop} (r : Result A Stop) → told ≡ Err e → IsErrAnd r (λ d. d ≡ e)
    → Passes before after text written → after ≡ seen → written ≡ told → IfErr r (λ stop. Passes before seen text (Err stop))
stopped_with (Ok a) was is passes there same = absurd is
stopped_with {before = before} {after = after} {text = text} (Err d) was is passes there same =
    subst (λ (o : OutputContent). Passes before o text (Err d)) there (subst (Passes before after text) (same ∙ (was ∙ ap (λ (e : Stop). Err e) (sym is))) passes)
