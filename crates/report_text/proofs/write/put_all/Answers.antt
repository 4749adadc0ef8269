use Rattle.std.proofs.Common.{◌<◌, ◌^◌, arith}
use Rattle.report_text.proofs.Pieces.{spelled_more}
use Rattle.report_text.proofs.write.put_all.Goals as goal

pub loop-value-preserved : goal.loop-value-preserved
loop-value-preserved c =
    let i = c.loop-value.value-index in
    let spelled = c.put_number-at.ensures in
    let small : c.from.result < 2 ^ 32 = omega (arith, c.from.ensures, c.type_inv.values i) in
    record {
      spelled = spelled_more c.args.name.now c.args.values.now i 0 c.from.result c.loop-value.at c.put_number-at.result c.loop-value.buf c.put_number-at.new.buf c.args.buf.now
          (omega arith) c.from.ensures c.loop-value.invariant.spelled spelled.end spelled.written spelled.rest;
      fits = omega (arith, spelled.short small, c.loop-value.invariant.fits);
    }
