use Rattle.std.proofs.Common.{◌∙◌, arith}
use Rattle.report_text.proofs.Pieces.{later_rest}
use Rattle.report_text.proofs.write.put_named.Goals as goal

pub returns-clause-rest : goal.returns-clause-rest
returns-clause-rest c =
    let comma = c.put-at.ensures.rest ∙ later_rest c.put_all-at.result c.put-at.result c.put_all-at.new.buf c.args.buf.now (omega (arith, c.put-at.ensures.end)) c.put_all-at.ensures.rest in
    c.put.ensures.rest ∙ later_rest c.put-at.result c.put.result c.put-at.new.buf c.args.buf.now (omega (arith, c.put.ensures.end)) comma
