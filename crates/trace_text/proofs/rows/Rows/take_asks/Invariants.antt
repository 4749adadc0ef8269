use Rattle.std.proofs.Common.{◌≡◌, ◌+◌, ◌≤◌, List, length}
use Rattle.trace_text.specs.Rows.{Row}
use Rattle.trace_text.specs.Lines.{records_in}
use Rattle.trace_text.specs.Standing.{StandsFor, RowsAreKept, AwaitsAsks, TakesLines}
use Rattle.trace_text.proofs.rows.Rows.take_asks.Given as goal

abbrev pub invariant-loop-ask : goal.invariant-loop-ask
invariant-loop-ask l = record {
  kept : RowsAreKept l.self;
  within : AwaitsAsks l.fn.command l.head.round l.self;
  rows : (before : List Row) → StandsFor before l.fn.self → TakesLines l.fn.command before l.text l.self l.rest;
  room : l.self.count + length (records_in l.rest) ≡ l.fn.self.count + length (records_in l.text);
  fewer : length (records_in l.rest) ≤ length (records_in l.text);
}

abbrev pub decreases-loop-ask : goal.decreases-loop-ask
decreases-loop-ask l = length (records_in l.rest)
