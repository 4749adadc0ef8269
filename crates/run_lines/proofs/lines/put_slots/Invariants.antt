use Rattle.std.proofs.Common.{◌+◌, ◌-◌, take, drop}
use Rattle.window_engine.specs.Scheduled.{cores_from}
use Rattle.run_lines.specs.Text.{text_of, slots_lines}
use Rattle.text_output.specs.Output.{Passed}
use Rattle.run_lines.proofs.lines.put_slots.Given as goal

abbrev pub invariant-loop-place : goal.invariant-loop-place
invariant-loop-place g l =
    Passed l.initial.output l.output (text_of (slots_lines (cores_from l.base l.cores) (l.base + l.from) (take (l.place - l.from) (drop l.from l.table.slots))))
