use Rattle.std.proofs.Common.{take}
use Rattle.std.specs.List.{flat_map}
use Rattle.run_lines.specs.Text.{text_of, refused_line}
use Rattle.text_output.specs.Output.{Passed}
use Rattle.run_lines.proofs.rounds.put_answers.Given as goal

abbrev pub invariant-loop-at : goal.invariant-loop-at
invariant-loop-at g l =
    Passed l.initial.output l.output (text_of (flat_map (refused_line l.round) (take l.at l.answers)))
