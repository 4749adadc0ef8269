use Rattle.std.proofs.Common.{length}
use Rattle.trace_text.specs.Lines.{ReadAlike}
use Rattle.trace_text.proofs.line.behind_blank_lines.Given as goal

abbrev pub invariant-loop-more : goal.invariant-loop-more
invariant-loop-more l = ReadAlike l.text l.rest

abbrev pub decreases-loop-more : goal.decreases-loop-more
decreases-loop-more l = length l.rest
