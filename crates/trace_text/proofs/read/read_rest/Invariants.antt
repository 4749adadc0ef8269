use Rattle.std.proofs.Common.{◌≤◌, ◌+◌, List, length, Ok}
use Rattle.trace_text.specs.Lines.{records_in}
use Rattle.trace_text.specs.Rows.{Row}
use Rattle.trace_text.specs.Standing.{ReadsRecords, RowsAreKept, StandsFor}
use Rattle.trace_text.proofs.read.read_rest.Given as goal

abbrev pub invariant-loop-fields : goal.invariant-loop-fields
invariant-loop-fields l = record {
  kept : RowsAreKept l.rows;
  lines : (before : List Row) → StandsFor before l.initial.rows → ReadsRecords l.command before (records_in l.text) l.rows l.records (Ok tt);
  room : l.rows.count + length l.records ≤ 67108864;
}

abbrev pub decreases-loop-fields : goal.decreases-loop-fields
decreases-loop-fields l = length l.records
