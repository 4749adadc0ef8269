use Rattle.std.proofs.Common.{map, take}
use Rattle.run_lines.specs.Text.{text_of, sent_line}
use Rattle.text_output.specs.Output.{Passed}
use Rattle.run_lines.proofs.rounds.put_departures.Given as goal

abbrev pub invariant-loop-at : goal.invariant-loop-at
invariant-loop-at g l =
    Passed l.initial.output l.output (text_of (map sent_line (take l.at l.departures)))
