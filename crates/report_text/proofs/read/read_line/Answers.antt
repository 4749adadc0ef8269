use Rattle.std.proofs.Common.{◌≤◌, arith}
use Rattle.report_text.proofs.LineKinds.{name_ends}
use Rattle.report_text.proofs.read.read_line.Goals as goal

pub returns-in_default-34-clause-only : goal.returns-in_default-34-clause-only
returns-in_default-34-clause-only c = λ l ok is.
    let long : 8 ≤ c.field_len.result = omega (arith, c.in_default.len_at_least, c.split_at.ensures.front_len) in
    absurd (name_ends l c.args.bytes.now c.field_len.result ok is long c.field_len.ensures.before)
