use Rattle.std.proofs.Common.{◌*◌, take}
use Rattle.run_lines.specs.Text.{text_of}
use Rattle.run_text.specs.PlanText.{batches_lines}
use Rattle.run_lines.specs.Steps.{cores_of_step}
use Rattle.run_lines.specs.Output.{Passed}
use Rattle.run_text.proofs.plan.put_window.Given as goal

abbrev pub invariant-loop-at : goal.invariant-loop-at
invariant-loop-at g l =
    Passed l.initial.output l.output (text_of (batches_lines (cores_of_step l.b l.step) l.b l.step.window.span.first (take l.at l.step.played.batches) (take (l.at * l.b) l.step.window.slots.slots)))
