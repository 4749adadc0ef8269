use Rattle.std.proofs.Common.{◌≡◌, length, map}
use Rattle.front_desk.specs.Standing.{AreDeskLines, state_of}
use Rattle.front_desk.proofs.Entering.{AreEntries, recorded_to}
use Rattle.front_desk.proofs.desk.record_all.Given as goal

abbrev pub invariant-loop-endpoint : goal.invariant-loop-endpoint
invariant-loop-endpoint l = record {
  many : length l.lines ≡ length l.fn.lines;
  lines : AreDeskLines (length l.fn.lines) l.lines;
  states : map state_of l.lines ≡ recorded_to l.endpoint (map state_of l.fn.lines);
  entries : AreEntries (length l.fn.lines) l.endpoint (map state_of l.fn.lines) l.batch.entries;
  limits : l.batch.limits ≡ l.fn.batch.limits;
}
