use Rattle.std.proofs.Common.{length, ap, ◌∙◌, arith}
use Rattle.std.proofs.lemmas.Fmt.{length-decimal-le}
use Rattle.report_text.proofs.Pieces.{later_rest}
use Rattle.report_text.proofs.write.put_number.Goals as goal

pub returns-clause-short : goal.returns-clause-short
returns-clause-short c = λ small.
    omega (arith, length-decimal-le 10 c.args.number (omega arith) (omega arith) (omega arith), ap length (c.as_bytes.ensures.value ∙ c.format.ensures.text), c.put.ensures.end, c.put-at.ensures.end)

pub returns-clause-rest : goal.returns-clause-rest
returns-clause-rest c = c.put.ensures.rest ∙ later_rest c.put-at.result c.put.result c.put-at.new.buf c.args.buf.now (omega (arith, c.put.ensures.end)) c.put-at.ensures.rest
