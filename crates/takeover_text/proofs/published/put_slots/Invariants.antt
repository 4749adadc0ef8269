use Rattle.std.proofs.Common.{take}
use Rattle.text_output.specs.Output.{Passed}
use Rattle.text_output.specs.Text.{text_of, slots_lines}
use Rattle.takeover_text.specs.Lines.{no_cores}
use Rattle.takeover_text.proofs.published.put_slots.Given as goal

abbrev pub invariant-loop-place : goal.invariant-loop-place
invariant-loop-place g l =
    Passed l.initial.output l.output (text_of (slots_lines no_cores l.first (take l.place l.slots.slots)))
