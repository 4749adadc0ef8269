use Rattle.std.proofs.Common.{◌+◌, ◌*◌, ◌≤◌, ◌++◌, take}
use Rattle.report_text.specs.Lines.{number_fields}
use Rattle.report_text.proofs.Pieces.{IsSpelled}
use Rattle.report_text.proofs.write.put_sums.Given as goal

abbrev pub invariant-loop-sum : goal.invariant-loop-sum
invariant-loop-sum l = record {
  spelled : IsSpelled (take l.start l.fn.buf ++ number_fields (take l.sum-index l.sums)) l.at l.buf l.fn.buf;
  fits : l.at ≤ l.start + 21 * l.sum-index;
}
