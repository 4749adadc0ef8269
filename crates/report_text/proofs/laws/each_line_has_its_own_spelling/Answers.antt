use Rattle.report_text.proofs.Spelling.{own_spelling}
use Rattle.report_text.proofs.laws.each_line_has_its_own_spelling.Goals as goal

pub returns : goal.returns
returns c = own_spelling
