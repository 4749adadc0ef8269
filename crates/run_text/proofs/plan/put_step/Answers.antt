use Rattle.std.proofs.Common.{ℕ, ◌∙◌, inl}
use Rattle.window_engine.specs.Standing.{engine_window}
use Rattle.run_lines.specs.Steps.{cores_of_step}
use Rattle.text_output.proofs.OutputLemmas.{Passes-same, OnOk-always}
use Rattle.run_text.proofs.CoreLemmas.{clean_in_window}
use Rattle.run_text.proofs.StepLemmas.{is_window, step_clean, step_text}
use Rattle.run_text.proofs.plan.put_step.Goals as goal

pub step-requires-clause-stands : goal.step-requires-clause-stands
step-requires-clause-stands g c κs within = inl c.requires.stands

pub returns-in_err-step-clause-passes : goal.returns-in_err-step-clause-passes
returns-in_err-step-clause-passes g c =
    let trace = c.args.trace.now in
    let engine = c.args.engine.now in (
      c.requires.cores.0,
      clean_in_window c.args.b engine.collected (engine_window engine) trace c.requires.cores.0 c.requires.cores.1,
      c.texts_follow.ensures.no_memory c.from_residual.ensures.1,
    )

pub put_window-requires-clause-window : goal.put_window-requires-clause-window
put_window-requires-clause-window g c =
    let made = c.in_ok-step.ensures.planned c.requires.stands in
    is_window c.args.b c.args.trace.now c.args.engine.now c.in_ok-step.step c.requires.accepted c.requires.stands c.requires.b c.every_plan_has_its_slots.ensures made.planned

pub returns-clause-stands : goal.returns-clause-stands
returns-clause-stands g c = OnOk-always c.put_window.result (c.in_ok-step.ensures.planned c.requires.stands).stands

pub returns-clause-round : goal.returns-clause-round
returns-clause-round g c = OnOk-always c.put_window.result c.in_ok-step.ensures.stepped.collected

pub returns-clause-rounds : goal.returns-clause-rounds
returns-clause-rounds g c = OnOk-always c.put_window.result c.in_ok-step.ensures.stepped.rounds

pub returns-clause-b : goal.returns-clause-b
returns-clause-b g c = OnOk-always c.put_window.result (c.in_ok-step.ensures.stepped.b ∙ c.requires.b)

pub returns-clause-passes : goal.returns-clause-passes
returns-clause-passes g c =
    let trace = c.args.trace.now in
    let engine = c.args.engine.now in
    let b : ℕ = c.args.b in
    let step = c.in_ok-step.step in
    let planned = (c.in_ok-step.ensures.planned c.requires.stands).planned in (
      cores_of_step b step,
      step_clean b trace engine step c.requires.b planned,
      Passes-same c.put_window.ensures (step_text b trace engine step c.requires.b planned),
    )
