use Rattle.text_output.specs.Output.{Passed}
use Rattle.text_output.specs.Text.{text_of}
use Rattle.takeover_text.specs.Lines.{takeover_lines}
use Rattle.takeover_text.specs.Progress.{log_after, PairHasTaken}
use Rattle.takeover_text.proofs.events.put_events.Given as goal

abbrev pub invariant-loop-at : goal.invariant-loop-at
invariant-loop-at g l = record {
  taken : PairHasTaken l.script l.at l.pair;
  passed : Passed l.initial.output l.output (text_of (takeover_lines l.script.pair (log_after l.script l.at)));
}
