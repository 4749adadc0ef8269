use Rattle.std.proofs.Common.{arith, rules}
use Rattle.report_text.proofs.ShortTable.{more_fields}
use Rattle.report_text.proofs.short_fields.ShortFields.new.Goals as goal

pub loop-number-preserved : goal.loop-number-preserved
loop-number-preserved c =
    let so_far = c.loop-number.invariant in
    record {
      count = search (rules, so_far.count);
      fields = more_fields c.loop-number.number c.loop-number.fields c.short_field.result (omega (arith, so_far.count, c.loop-number-test.true)) so_far.fields
          (c.short_field.ensures.fits, c.short_field.ensures.spelled);
    }
