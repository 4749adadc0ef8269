use Rattle.std.proofs.Common.{arith, take, refl}
use Rattle.report_text.proofs.Pieces.{spelled_more}
use Rattle.report_text.proofs.write.put_sums.Goals as goal

pub loop-sum-preserved : goal.loop-sum-preserved
loop-sum-preserved c =
    let spelled = c.put_number-at.ensures in
    record {
      spelled = spelled_more (take c.args.start c.args.buf.now) c.args.sums.now c.loop-sum.sum-index 0 _ c.loop-sum.at c.put_number-at.result c.loop-sum.buf c.put_number-at.new.buf c.args.buf.now
          (omega arith) refl c.loop-sum.invariant.spelled spelled.end spelled.written spelled.rest;
      fits = omega (arith, spelled.fits, c.loop-sum.invariant.fits);
    }
