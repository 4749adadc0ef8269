use Rattle.std.proofs.Common.{◌≡◌, ◌≤◌, List, ◌++◌, length, Option, ◌+◌}
use Rattle.report_text.specs.declared.line.Line.{Line}
use Rattle.schedule_audit.specs.Reading.{ReadsLines}
use Rattle.schedule_audit.proofs.text.count_lines.Given as goal

abbrev pub invariant-loop-rest : goal.invariant-loop-rest
invariant-loop-rest l =
    (before : List (Option Line)) × ((after : List (Option Line)) → ReadsLines l.rest after → ReadsLines l.text (before ++ after)) × (l.count ≡ length before) × (l.count + length l.rest ≤ length l.text)

abbrev pub decreases-loop-rest : goal.decreases-loop-rest
decreases-loop-rest l = length l.rest
