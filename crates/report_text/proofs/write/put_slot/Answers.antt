use Rattle.std.proofs.Common.{◌∙◌, arith}
use Rattle.report_text.proofs.Pieces.{later_rest}
use Rattle.report_text.proofs.write.put_slot.Goals as goal

pub returns-in-Some-clause-rest : goal.returns-in-Some-clause-rest
returns-in-Some-clause-rest c =
    c.put_number.ensures.rest ∙ later_rest c.put_all-at.result c.put_number.result c.put_all-at.new.buf c.args.buf.now (omega (arith, c.put_number.ensures.end)) c.put_all-at.ensures.rest

pub returns-in-None-clause-rest : goal.returns-in-None-clause-rest
returns-in-None-clause-rest c =
    c.put.ensures.rest ∙ later_rest c.put_all-at.result c.put.result c.put_all-at.new.buf c.args.buf.now (omega (arith, c.put.ensures.end)) c.put_all-at.ensures.rest
