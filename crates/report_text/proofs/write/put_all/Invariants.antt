use Rattle.std.proofs.Common.{◌+◌, ◌*◌, ◌≤◌, ◌++◌, length, take}
use Rattle.report_text.specs.Lines.{number_fields}
use Rattle.report_text.proofs.Pieces.{IsSpelled}
use Rattle.report_text.proofs.write.put_all.Given as goal

abbrev pub invariant-loop-value : goal.invariant-loop-value
invariant-loop-value l = record {
  spelled : IsSpelled (l.name ++ number_fields (take l.value-index l.values)) l.at l.buf l.fn.buf;
  fits : l.at ≤ length l.name + 11 * l.value-index;
}
