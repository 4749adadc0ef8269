use Rattle.std.proofs.Common.{◌∙◌, arith}
use Rattle.report_text.proofs.Pieces.{later_rest}
use Rattle.report_text.proofs.write.put_made.Goals as goal

pub returns-clause-rest : goal.returns-clause-rest
returns-clause-rest c =
    c.put_sums.ensures.rest ∙ later_rest c.put_all-at.result c.put_sums.result c.put_all-at.new.buf c.args.buf.now (omega (arith, c.put_sums.ensures.end)) c.put_all-at.ensures.rest
