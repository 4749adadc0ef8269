use Rattle.std.proofs.Common.{◌≡◌, List, length, Option}
use Rattle.report_text.specs.declared.line.Line.{Line}
use Rattle.schedule_audit.specs.Reading.{ReadsLines}
use Rattle.schedule_audit.specs.Lines.{records, reaches}
use Rattle.schedule_audit.proofs.misplaced.has_batch_from.Given as goal

abbrev pub invariant-loop-rest : goal.invariant-loop-rest
invariant-loop-rest l =
    (lines : List (Option Line)) → ReadsLines l.text lines → (after : List (Option Line)) × ReadsLines l.rest after × (reaches l.batch (records lines) ≡ reaches l.batch (records after))

abbrev pub decreases-loop-rest : goal.decreases-loop-rest
decreases-loop-rest l = length l.rest
