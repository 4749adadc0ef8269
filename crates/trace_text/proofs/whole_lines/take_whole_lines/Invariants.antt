use Rattle.std.proofs.Common.{◌≡◌, ◌+◌, ◌≤◌, List, length}
use Rattle.trace_text.specs.Lines.{records_in}
use Rattle.trace_text.specs.Rows.{Row}
use Rattle.trace_text.specs.Standing.{RowsAreKept, StandsFor, TakesLines}
use Rattle.trace_text.proofs.whole_lines.take_whole_lines.Given as goal

abbrev pub invariant-loop-more : goal.invariant-loop-more
invariant-loop-more l = record {
  kept : RowsAreKept l.rows;
  lines : (before : List Row) → StandsFor before l.initial.rows → TakesLines l.command before l.text l.rows l.rest;
  room : l.rows.count + length (records_in l.rest) ≡ l.initial.rows.count + length (records_in l.text);
  fewer : length (records_in l.rest) ≤ length (records_in l.text);
}

abbrev pub decreases-loop-more : goal.decreases-loop-more
decreases-loop-more l = length (records_in l.rest)
