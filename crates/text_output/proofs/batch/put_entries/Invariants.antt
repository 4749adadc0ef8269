use Rattle.std.proofs.Common.{map, take}
use Rattle.text_output.specs.Text.{text_of, entry_line}
use Rattle.text_output.specs.Output.{Passed}
use Rattle.text_output.proofs.batch.put_entries.Given as goal

abbrev pub invariant-loop-at : goal.invariant-loop-at
invariant-loop-at g l =
    Passed l.initial.output l.output (text_of (map (entry_line l.number) (take l.at l.batch.entries)))
