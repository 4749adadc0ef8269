use Rattle.std.proofs.Common.{◌∙◌, sym}
use Rattle.schedule_audit.proofs.AuditSteps.{wrong-line, clean}
use Rattle.schedule_audit.proofs.SmallLines.{small-lines}
use Rattle.schedule_audit.proofs.auditor.audit.Goals as goal

pub first_wrong-requires-clause-collected : goal.first_wrong-requires-clause-collected
first_wrong-requires-clause-collected c =
    let read = c.in-Ok.ensures.lines in
    let lines = read.0 in (
      lines,
      c.in-Ok.ensures.collected c.in-None.is lines read.1,
      small-lines c.args.bytes.now lines read.1,
      sym (c.in-Ok.ensures.misplaced lines read.1) ∙ c.in-None.is,
    )

pub returns-in-Some-wrong-clause-verdict : goal.returns-in-Some-wrong-clause-verdict
returns-in-Some-wrong-clause-verdict c =
    let read = c.in-Ok.ensures.lines in
    let lines = read.0 in
    let none = sym (c.in-Ok.ensures.misplaced lines read.1) ∙ c.in-None.is in (
      lines,
      read.1,
      wrong-line c.args.net c.args.b lines c.in-Ok.scanned.misplaced c.in-Ok-first_wrong.wrong (c.in-Ok.ensures.misplaced lines read.1) c.in-None.is
          (c.in-Ok-first_wrong.ensures lines (c.in-Ok.ensures.collected c.in-None.is lines read.1) (small-lines c.args.bytes.now lines read.1) none) ∙ c.in-Some-wrong.is,
    )

pub returns-in-None-wrong-clause-verdict : goal.returns-in-None-wrong-clause-verdict
returns-in-None-wrong-clause-verdict c =
    let read = c.in-Ok.ensures.lines in
    let lines = read.0 in
    let none = sym (c.in-Ok.ensures.misplaced lines read.1) ∙ c.in-None.is in (
      lines,
      read.1,
      (
        wrong-line c.args.net c.args.b lines c.in-Ok.scanned.misplaced c.in-Ok-first_wrong.wrong (c.in-Ok.ensures.misplaced lines read.1) c.in-None.is
            (c.in-Ok-first_wrong.ensures lines (c.in-Ok.ensures.collected c.in-None.is lines read.1) (small-lines c.args.bytes.now lines read.1) none) ∙ c.in-None-wrong.is,
        (c.in-Ok.ensures.collected c.in-None.is lines read.1).count,
      ),
    )

pub returns-in-None-wrong-clause-shows : goal.returns-in-None-wrong-clause-shows
returns-in-None-wrong-clause-shows c =
    let read = c.in-Ok.ensures.lines in
    let lines = read.0 in
    let none = sym (c.in-Ok.ensures.misplaced lines read.1) ∙ c.in-None.is in (
      lines,
      read.1,
      clean c.args.net c.args.b lines c.no_misplaced_line_is_recorded.ensures.slots
          (wrong-line c.args.net c.args.b lines c.in-Ok.scanned.misplaced c.in-Ok-first_wrong.wrong (c.in-Ok.ensures.misplaced lines read.1) c.in-None.is
          (c.in-Ok-first_wrong.ensures lines (c.in-Ok.ensures.collected c.in-None.is lines read.1) (small-lines c.args.bytes.now lines read.1) none) ∙ c.in-None-wrong.is),
    )
