use Rattle.run_lines.specs.Text.{text_of}
use Rattle.run_text.specs.ReplayProgress.{played_lines}
use Rattle.run_lines.specs.Output.{Passed}
use Rattle.run_text.proofs.replay.put_played.Given as goal

abbrev pub invariant-loop-at : goal.invariant-loop-at
invariant-loop-at g l =
    Passed l.initial.output l.output (text_of (played_lines l.step.collected.first l.step.played l.at))
