use Rattle.std.proofs.Common.{◌≡◌, ◌≤◌, ◌+◌, List, ◌++◌, length, Option}
use Rattle.clos_topology.specs.Network.{endpoints_of}
use Rattle.report_text.specs.declared.line.Line.{Line}
use Rattle.schedule_audit.specs.Reading.{ReadsLines}
use Rattle.schedule_audit.specs.Collecting.{CollectsUpTo}
use Rattle.schedule_audit.proofs.Passes.{Reached}
use Rattle.schedule_audit.proofs.scanned.scan_text.Given as goal

abbrev pub invariant-loop-rest : goal.invariant-loop-rest
invariant-loop-rest l = record {
  reached : (lines : List (Option Line)) → ReadsLines l.text lines
      → (reached : Reached (endpoints_of l.net) lines l.rest (l.collected.lines + 1) l.ended l.standing.last l.standing.sums) × CollectsUpTo lines reached.after l.collected;
  behind : (before : List (Option Line)) × ((after : List (Option Line)) → ReadsLines l.rest after → ReadsLines l.text (before ++ after));
  bound : l.collected.lines + length l.rest ≤ length l.text;
  endpoints : l.standing.sums.endpoints ≡ endpoints_of l.net;
}

abbrev pub decreases-loop-rest : goal.decreases-loop-rest
decreases-loop-rest l = length l.rest
