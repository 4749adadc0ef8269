use Rattle.std.proofs.Common.{arith}
use Rattle.report_text.proofs.Pieces.{front_of}
use Rattle.report_text.proofs.put.put_front.Goals as goal

pub returns-clause-written : goal.returns-clause-written
returns-clause-written c =
    front_of c.args.at c.args.count c.put.result c.args.buf.now c.args.bytes.now c.put.new.buf (omega (arith, c.requires.room)) c.requires.count c.put.ensures.end c.put.ensures.written
