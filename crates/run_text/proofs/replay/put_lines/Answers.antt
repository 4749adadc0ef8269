use Rattle.std.proofs.Common.{◌≡◌, ◌++◌, sym, ap, ◌∙◌, subst, ℕ, List}
use Rattle.clos_topology.specs.NetSlots.{SlotCores}
use Rattle.report_text.specs.declared.line.Line.TheVariants as line
use Rattle.trace_text.specs.Trace.{TraceContent}
use Rattle.trace_run.specs.Run.{Setting}
use Rattle.replay_rounds.specs.Setting.{setting_of}
use Rattle.run_lines.specs.Text.{counts_lines, line_text, text_of}
use Rattle.text_output.proofs.OutputLemmas.{Ends-stopped}
use Rattle.run_text.specs.ReplayScheduled.{AreReplayCores, WithReplayCores}
use Rattle.run_text.specs.ReplayText.{all_steps_lines, replay_text}
use Rattle.run_text.proofs.PlanLemmas.{end_text, parts_with_end}
use Rattle.run_text.proofs.ReplayLoop.{same_run}
use Rattle.window_engine.specs.Standing.{EngineState, run_of}
use Rattle.run_text.proofs.replay.put_lines.Goals as goal

-- the counts and the end
abbrev rest_of : TraceContent → Setting → List ℕ
rest_of trace setting = text_of (counts_lines setting trace) ++ end_text trace

-- the steps, for the window that was set, and the rest
parts : (trace : TraceContent) (cores : SlotCores) (b n g : ℕ) → n ≡ g → replay_text cores b g trace ≡ text_of (all_steps_lines cores (setting_of trace b n cores) trace) ++ rest_of trace (setting_of trace b g cores)
parts trace cores b n g window =
    let setting : Setting = setting_of trace b g cores in
    sym (ap (λ (m : ℕ). text_of (all_steps_lines cores (setting_of trace b m cores) trace) ++ rest_of trace setting) window ∙ parts_with_end (all_steps_lines cores setting trace) (counts_lines setting trace) trace)

pub returns-in_err-replay : goal.returns-in_err-replay
returns-in_err-replay g c = (
  c.requires.cores.0,
  c.requires.cores.1,
  Ends-stopped _ (c.texts_follow.ensures.no_memory c.from_residual.ensures.1) c.from_residual.ensures.1,
)

pub put_steps-requires-clause-cores : goal.put_steps-requires-clause-cores
put_steps-requires-clause-cores g c κs within =
    let trace = c.args.trace.now in
    let window = ap (λ (e : EngineState). e.g) c.deref_mut-engine.ensures.value ∙ c.in_ok-replay.ensures.g in
    subst (λ (n : ℕ). WithReplayCores c.args.sizes.b n trace (λ cores. Unit {0})) (sym window) c.requires.cores

pub returns-in_err-put_steps : goal.returns-in_err-put_steps
returns-in_err-put_steps g c =
    let trace = c.args.trace.now in
    let b : ℕ = c.args.sizes.b in
    let w : ℕ = c.args.sizes.g in
    let window = ap (λ (e : EngineState). e.g) c.deref_mut-engine.ensures.value ∙ c.in_ok-replay.ensures.g in
    let (cores, makes, got) = c.in_err-put_steps.ensures.passes in (
      cores,
      subst (λ (n : ℕ). AreReplayCores b n trace cores) window makes,
      Ends-stopped _ (c.texts_follow.ensures.stopped (rest_of trace (setting_of trace b w cores)) got.1 c.from_residual-in_err-put_steps.ensures.1 (parts trace cores b c.deref_mut-engine.result.now.g w window))
          c.from_residual-in_err-put_steps.ensures.1,
    )

pub put_counts-requires-clause-stands : goal.put_counts-requires-clause-stands
put_counts-requires-clause-stands g c =
    let (cores, makes, got) = c.in_ok-put_steps.ensures.passes in (cores, got.0)

pub returns-in_err-put_counts : goal.returns-in_err-put_counts
returns-in_err-put_counts g c =
    let trace = c.args.trace.now in
    let b : ℕ = c.args.sizes.b in
    let w : ℕ = c.args.sizes.g in
    let window = ap (λ (e : EngineState). e.g) c.deref_mut-engine.ensures.value ∙ c.in_ok-replay.ensures.g in
    let (cores, makes, got) = c.in_ok-put_steps.ensures.passes in
    let own : Setting = run_of trace cores c.put_steps.new.replay in
    let setting : Setting = setting_of trace b w cores in
    let same : own ≡ setting = same_run trace cores c.put_steps.new.replay b w c.in_ok-put_steps.ensures.b (c.in_ok-put_steps.ensures.g ∙ window) in (
      cores,
      subst (λ (n : ℕ). AreReplayCores b n trace cores) window makes,
      Ends-stopped _ (c.texts_follow.ensures.after {z = replay_text cores b w trace} got.1
          (c.texts_follow.ensures.stopped {z = rest_of trace setting} (end_text trace) (c.in_err-put_counts.ensures cores got.0) c.from_residual-in_err-put_counts.ensures.1
          (sym (ap (λ (s : Setting). text_of (counts_lines s trace) ++ end_text trace) same)))
          (parts trace cores b c.deref_mut-engine.result.now.g w window))
          c.from_residual-in_err-put_counts.ensures.1,
    )

pub returns : goal.returns
returns g c =
    let trace = c.args.trace.now in
    let b : ℕ = c.args.sizes.b in
    let w : ℕ = c.args.sizes.g in
    let window = ap (λ (e : EngineState). e.g) c.deref_mut-engine.ensures.value ∙ c.in_ok-replay.ensures.g in
    let (cores, makes, got) = c.in_ok-put_steps.ensures.passes in
    let own : Setting = run_of trace cores c.put_steps.new.replay in
    let setting : Setting = setting_of trace b w cores in
    let same : own ≡ setting = same_run trace cores c.put_steps.new.replay b w c.in_ok-put_steps.ensures.b (c.in_ok-put_steps.ensures.g ∙ window) in
    let ended : List ℕ = line_text (line.End c.rounds.result) in
    let last : ended ≡ end_text trace = ap (λ (n : ℕ). line_text (line.End n)) c.rounds.ensures.number in (
      cores,
      subst (λ (n : ℕ). AreReplayCores b n trace cores) window makes,
      record {
        passes = c.texts_follow.ensures.after got.1
            (c.texts_follow.ensures.after {z = rest_of trace setting} (c.in_ok-put_counts.ensures cores got.0) c.put_last_line.ensures.passes
            (sym (ap (λ (s : Setting). text_of (counts_lines s trace) ++ ended) same ∙ ap (λ (t : List ℕ). text_of (counts_lines setting trace) ++ t) last)))
            (parts trace cores b c.deref_mut-engine.result.now.g w window);
        empty = c.put_last_line.ensures.empty;
      },
    )
