-- One step of a replay after another, with the cores that they name.
use Rattle.std.proofs.Common.{◌≡◌, ◌≢◌, ◌<◌, ◌≤◌, ◌+◌, ◌-◌, ℕ, suc, List, ◌++◌, min, refl, sym, ap, ◌∙◌, arith}
use Rattle.std.specs.List.{flat_map, range_with_len}
use Rattle.clos_topology.specs.NetSlots.{SlotCores}
use Rattle.report_text.specs.declared.line.Line.{Line}
use Rattle.trace_text.specs.Trace.{TraceContent}
use Rattle.trace_run.specs.Run.{Setting}
use Rattle.replay_rounds.specs.Setting.{setting_of}
use Rattle.window_engine.specs.Replay.{EveryReplayTakesItsSteps}
use Rattle.run_lines.specs.Text.{text_of}
use Rattle.run_text.specs.ReplayProgress.{next_replay_lines}
use Rattle.run_text.specs.ReplayScheduled.{AgreeAbove}
use Rattle.run_text.specs.ReplayText.{step_lines, steps_lines, steps_of}
use Rattle.run_text.proofs.CoreLemmas.{spliced, spliced-here, spliced-there}
use Rattle.run_text.proofs.NumberedTexts.{numbers_more, numbers_whole}
use Rattle.run_text.proofs.ReplaySteps.{IsAfter, next_step, more_steps}
use Rattle.window_engine.specs.Standing.{EngineState, run_of}

-- cores that agree with the spliced ones up to the window's end agree with the others before it, and with its own in it
pub agree_before : (low size all : ℕ) (cores here there : SlotCores) → low ≤ all → AgreeAbove 0 all cores (spliced low size here there) → AgreeAbove 0 low cores there
agree_before low size all cores here there le agree number above below = agree number above (omega arith) ∙ spliced-there low size here there number (omega (arith, below))

pub agree_in : (low size all : ℕ) (cores here there : SlotCores) → low + size ≤ all → AgreeAbove 0 all cores (spliced low size here there) → AgreeAbove low size cores here
agree_in low size all cores here there le agree number above below = agree number (omega arith) (omega arith) ∙ spliced-here low size here there number above below

pub agree_self : (low size : ℕ) (cores : SlotCores) → AgreeAbove low size cores cores
agree_self low size cores number above below = refl

-- the run that a replay stands for is that of its sizes
pub same_run : (trace : TraceContent) (cores : SlotCores) (engine : EngineState) (b g : ℕ) → engine.b ≡ b → engine.g ≡ g → run_of trace cores engine ≡ setting_of trace b g cores
same_run trace cores engine b g size window = ap (λ (n : ℕ). setting_of trace n engine.g cores) size ∙ ap (λ (n : ℕ). setting_of trace b n cores) window

pub step_here : (trace : TraceContent) (cores : SlotCores) (engine : EngineState) (b g steps : ℕ) → IsAfter g trace.rounds steps engine → engine.rounds ≡ trace.rounds → engine.b ≡ b → engine.g ≡ g
    → next_replay_lines cores trace engine ≡ step_lines cores (setting_of trace b g cores) trace steps
step_here trace cores engine b g steps after all size window =
    next_step trace cores engine g steps after all window ∙ ap (λ (s : Setting). step_lines cores s trace steps) (same_run trace cores engine b g size window)

-- one step more
pub steps_more : (trace : TraceContent) (cores : SlotCores) (engine : EngineState) (b g steps : ℕ) → IsAfter g trace.rounds steps engine → engine.rounds ≡ trace.rounds → engine.b ≡ b → engine.g ≡ g →
    let setting : Setting = setting_of trace b g cores in
    text_of (steps_lines cores setting trace (suc steps)) ≡ text_of (steps_lines cores setting trace steps) ++ text_of (next_replay_lines cores trace engine)
steps_more trace cores engine b g steps after all size window =
    let setting : Setting = setting_of trace b g cores in
    let one : suc steps ≡ steps + 1 = omega arith in
    ap (λ (n : ℕ). text_of (steps_lines cores setting trace n)) one
    ∙ (numbers_more (step_lines cores setting trace) steps ∙ ap (λ (ls : List Line). text_of (steps_lines cores setting trace steps) ++ text_of ls) (sym (step_here trace cores engine b g steps after all size window)))

-- what stands after a step where the whole stops
abbrev pub steps_after : SlotCores → Setting → TraceContent → ℕ → List ℕ
steps_after cores setting trace steps = text_of (flat_map (step_lines cores setting trace) (range_with_len (0 + (steps + 1)) (steps_of setting trace - (steps + 1))))

pub steps_stop : (trace : TraceContent) (cores : SlotCores) (engine : EngineState) (b g steps : ℕ) → EveryReplayTakesItsSteps → 0 < g → 0 < trace.rounds → IsAfter g trace.rounds steps engine → engine.rounds ≡ trace.rounds → engine.b ≡ b → engine.g ≡ g
    → engine.allocated ≢ engine.rounds →
    let setting : Setting = setting_of trace b g cores in
    text_of (steps_lines cores setting trace (steps_of setting trace)) ≡ (text_of (steps_lines cores setting trace steps) ++ text_of (next_replay_lines cores trace engine)) ++ steps_after cores setting trace steps
steps_stop trace cores engine b g steps takes some positive after all size window more =
    let setting : Setting = setting_of trace b g cores in
    numbers_whole (step_lines cores setting trace) (steps_of setting trace) steps (more_steps g trace.rounds steps engine takes some positive after (λ is. more (is ∙ sym all)))
    ∙ ap (λ (ls : List Line). (text_of (steps_lines cores setting trace steps) ++ text_of ls) ++ steps_after cores setting trace steps) (sym (step_here trace cores engine b g steps after all size window))

pub no_step : (trace : TraceContent) (engine : EngineState) → engine.collected ≡ 0 → engine.allocated ≡ 0 → IsAfter engine.g trace.rounds 0 engine
no_step trace engine collected published = record { collected = collected; published = published; least = λ some. absurd (omega (arith, some)) }

-- rounds that are not collected, and batches that are not published, grow fewer with every step
pub step_smaller : (g all collected published collected' published' : ℕ) → 0 < g → published ≤ collected → collected ≤ all → published ≢ all → collected' ≡ collected + min g (all - collected) → published' ≡ collected
    → (all - collected') + (all - published') < (all - collected) + (all - published)
step_smaller g all collected published collected' published' some behind within more collected_is published_is = omega (arith, some, behind, within, more, collected_is, published_is)
