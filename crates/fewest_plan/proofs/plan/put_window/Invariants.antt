use Rattle.std.proofs.Common.{◌*◌, take}
use Rattle.run_lines.specs.Text.{text_of}
use Rattle.run_lines.specs.Output.{Passed}
use Rattle.run_text.specs.PlanText.{batches_lines}
use Rattle.fewest_plan.specs.Progress.{cores_of_window}
use Rattle.fewest_plan.proofs.plan.put_window.Given as goal

abbrev pub invariant-loop-at : goal.invariant-loop-at
invariant-loop-at g l =
    Passed l.initial.output l.output (text_of (batches_lines (cores_of_window l.b l.window) l.b l.window.first (take l.at l.window.batches.items) (take (l.at * l.b) l.window.slots.slots)))
