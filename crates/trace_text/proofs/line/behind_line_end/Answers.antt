use Rattle.std.proofs.Common.{◌<◌, length, sym, ◌∙◌, arith}
use Rattle.std.proofs.lemmas.Bool.Decides.{nat_tests}
use Rattle.trace_text.proofs.FrontFacts.{behind-end}
use Rattle.trace_text.proofs.line.behind_line_end.Goals as goal

pub returns-clause-same : goal.returns-clause-same
returns-clause-same c =
    let some : 0 < length c.args.text.now = let empty = c.is_empty.ensures in let no = c.if-is_empty.false in grind (arith, nat_tests) in
    rw c.split_at.ensures.back (behind-end c.args.text.now (sym c.is_blank.ensures ∙ c.if-not-is_blank.false) some)
