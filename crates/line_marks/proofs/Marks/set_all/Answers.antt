use Rattle.line_marks.proofs.BitLemmas.{every_bit}
use Rattle.line_marks.proofs.Marks.set_all.Goals as goal

pub returns : goal.returns
returns c = every_bit
