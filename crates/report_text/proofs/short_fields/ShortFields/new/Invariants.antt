use Rattle.std.proofs.Common.{◌≡◌, length}
use Rattle.report_text.specs.ShortFields.{HasShortFields}
use Rattle.report_text.proofs.short_fields.ShortFields.new.Given as goal

abbrev pub invariant-loop-number : goal.invariant-loop-number
invariant-loop-number l = record {
  count : length l.fields ≡ 1000;
  fields : HasShortFields l.number l.fields;
}
