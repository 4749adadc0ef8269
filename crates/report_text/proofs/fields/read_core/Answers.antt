use Rattle.std.proofs.Common.{◌∙◌, sym}
use Rattle.report_text.proofs.NumberText.{no_core}
use Rattle.report_text.proofs.fields.read_core.Goals as goal

pub returns-then-has_no_core-clause-only : goal.returns-then-has_no_core-clause-only
returns-then-has_no_core-clause-only c = λ core small is. no_core core small (sym is ∙ c.if-has_no_core.ensures)
