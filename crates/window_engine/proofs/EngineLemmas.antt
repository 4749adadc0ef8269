-- What a replay ensures, as an engine that has it ensures it.
use Rattle.std.proofs.Common.{◌≡◌, ◌+◌, ◌-◌, min, refl, sym, ap, ◌∙◌, subst}
use Rattle.std.specs.Prelude.{⊤, Result, Ok, Err, IfOk, OnOk}
use Rattle.clos_topology.specs.NetSlots.{SlotCores}
use Rattle.trace_text.specs.Trace.{TraceContent}
use Rattle.trace_run.specs.Shown.{IsShown}
use Rattle.replay_rounds.specs.Played.{rounds_played}
use Rattle.replay_rounds.specs.Standing.{slots_between}
use Rattle.window_allocation.specs.Windows.{IsWindowOf}
use Rattle.window_engine.specs.declared.engine.EngineRun.{EngineRun}
use Rattle.window_engine.specs.declared.engine.EngineRun.TheVariants.{Plan, Replay}
use Rattle.window_engine.specs.Plan.{PlanState, PlanStands, plan_window}
use Rattle.window_engine.specs.Replay.{ReplayState, ReplayStands, replay_run}
use Rattle.window_engine.specs.Standing.{EngineState, of_plan, of_replay, StandsForPlan, StandsForReplay, HasPlannedWindow, HasReplayedWindow}
use Rattle.window_engine.specs.Step.{StepContent, StepIsPlanned, HasCoresOf}

-- ---- an engine has a plan or a replay

abbrev replay_in : ReplayState → EngineRun → ReplayState
replay_in other (Plan plan) = other
replay_in other (Replay replay) = replay

abbrev HasAPlan : EngineRun → Type 0
HasAPlan (Plan plan) = ⊤
HasAPlan (Replay replay) = ⊥

never_both : {A : Type 0} (plan : PlanState) (replay : ReplayState) → of_plan plan ≡ of_replay replay → A
never_both plan replay same = absurd (subst (λ (e : EngineState). HasAPlan e.run) same tt)

pub no_replay : {A : Type 0} (trace : TraceContent) (cores : SlotCores) (engine : EngineState) (plan : PlanState) → of_plan plan ≡ engine → StandsForReplay trace cores engine → A
no_replay trace cores engine plan seen stands = never_both plan stands.replay (seen ∙ stands.is)

pub no_plan : {A : Type 0} (trace : TraceContent) (engine : EngineState) (replay : ReplayState) → of_replay replay ≡ engine → StandsForPlan trace engine → A
no_plan trace engine replay seen stands = never_both stands.plan replay (sym (seen ∙ stands.is))

pub replay_stands : (trace : TraceContent) (cores : SlotCores) (engine : EngineState) (replay : ReplayState) → of_replay replay ≡ engine → StandsForReplay trace cores engine → ReplayStands trace cores replay
replay_stands trace cores engine replay seen stands =
    let same : replay ≡ stands.replay = ap (λ (e : EngineState). replay_in replay e.run) (seen ∙ stands.is) in
    subst (ReplayStands trace cores) (sym same) stands.stands

pub replay_engine : (trace : TraceContent) (cores : SlotCores) (replay : ReplayState) → ReplayStands trace cores replay → StandsForReplay trace cores (of_replay replay)
replay_engine trace cores replay stands = record { replay = replay; is = refl; stands = stands }

-- ---- a step

pub plan_planned : {E : Type 0} (trace : TraceContent) (old new : PlanState) (result : Result StepContent E) → OnOk result (PlanStands trace new) → OnOk result (new.collection.rounds ≡ old.collection.rounds + plan_window old)
    → IfOk result (StepIsPlanned trace old.allocation.b old.collection.rounds (plan_window old)) → IfOk result (HasPlannedWindow trace (of_plan old) (of_plan new))
plan_planned trace old new (Ok step) stands rounds planned = record { stands = record { plan = new; is = refl; stands = stands }; allocated = rounds; planned = planned }
plan_planned trace old new (Err e) stands rounds planned = tt

pub replay_replayed : {E : Type 0} (trace : TraceContent) (cores : SlotCores) (old new : ReplayState) (result : Result StepContent E) → ReplayStands trace cores old
    → IfOk result (λ step. (named : SlotCores) → ReplayStands trace named old → HasCoresOf old.lanes.b step named → ReplayStands trace named new) → OnOk result (new.lanes.published ≡ old.lanes.collected)
    → IfOk result (λ step. (named : SlotCores) → ReplayStands trace named old → step.played ≡ rounds_played (replay_run trace named old) trace old.lanes.collected (min old.lanes.g (old.rounds - old.lanes.collected)))
    → IfOk result (λ step. step.window.span ≡ record { first = old.lanes.published; count = old.lanes.collected - old.lanes.published })
    → IfOk result (λ step. (named : SlotCores) → ReplayStands trace named old → IsWindowOf trace.net old.lanes.b (slots_between (replay_run trace named old) old.lanes.published old.lanes.collected) step.window)
    → OnOk result ((named : SlotCores) → IsShown (replay_run trace named old) new.lanes.collected) → IfOk result (HasReplayedWindow trace cores (of_replay old) (of_replay new))
replay_replayed trace cores old new (Ok step) before stands allocated played span window shown = record {
  stands = λ has. replay_engine trace cores new (stands cores before has);
  allocated = allocated;
  played = played cores before;
  span = span;
  window = window cores before;
  shown = shown;
}
replay_replayed trace cores old new (Err e) before stands allocated played span window shown = tt

-- what is so of a step is so where its engines and what it gives are seen otherwise
pub carried : {E : Type 0} (P : EngineState → EngineState → StepContent → Type 0) (result shown : Result StepContent E) (old now new there : EngineState) → shown ≡ result → old ≡ now → there ≡ new → IfOk result (P old new) → IfOk shown (P now there)
carried {E = E} P result shown old now new there same before after it =
    subst (λ (r : Result StepContent E). IfOk r (P now there)) (sym same) (subst (λ (e : EngineState). IfOk result (P now e)) (sym after) (subst (λ (e : EngineState). IfOk result (P e new)) before it))
