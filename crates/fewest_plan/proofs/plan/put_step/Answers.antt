use Rattle.std.proofs.Common.{ℕ, subst}
use Rattle.greedy_rules.specs.Examples.{remaining}
use Rattle.run_lines.proofs.OutputLemmas.{Passes-same}
use Rattle.fewest_plan.specs.Progress.{cores_of_window}
use Rattle.fewest_plan.specs.Standing.{IsPlanned, planner_window}
use Rattle.fewest_plan.proofs.CoreLemmas.{clean_in_window}
use Rattle.fewest_plan.proofs.TextLemmas.{is_window, window_text}
use Rattle.fewest_plan.proofs.plan.put_step.Goals as goal

pub returns-in_err-window-clause-passes : goal.returns-in_err-window-clause-passes
returns-in_err-window-clause-passes g c =
    let trace = c.args.trace.now in
    let planner = c.args.planner.now in (
      c.requires.cores.0,
      clean_in_window c.args.b planner.collection.rounds (planner_window trace planner) trace c.requires.cores.0 c.requires.cores.1,
      c.texts_follow.ensures.no_memory c.from_residual.ensures.1,
    )

pub put_window-requires-clause-window : goal.put_window-requires-clause-window
put_window-requires-clause-window g c =
    is_window c.args.b c.args.trace.now c.args.planner.now c.in_ok-window.window c.requires.accepted c.requires.stands (c.every_plan_has_its_slots.ensures remaining) c.requires.b c.in_ok-window.ensures.planned

pub returns-clause-passes : goal.returns-clause-passes
returns-clause-passes g c =
    let trace = c.args.trace.now in
    let b : ℕ = c.args.b in
    let first : ℕ = c.args.planner.now.collection.rounds in
    let count : ℕ = planner_window trace c.args.planner.now in
    let window = c.in_ok-window.window in
    let planned : IsPlanned trace b first count window = subst (λ (n : ℕ). IsPlanned trace n first count window) c.requires.b c.in_ok-window.ensures.planned in (
      cores_of_window b window,
      planned.clean,
      Passes-same c.put_window.ensures (window_text b first count trace window planned),
    )
