use Rattle.std.proofs.Common.{sym, ◌∙◌}
use Rattle.trace_text.proofs.EndFacts.{alike-here}
use Rattle.trace_text.proofs.LineFacts.{none-in-empty}
use Rattle.trace_text.proofs.records.read_other.Goals as goal

pub returns-then-is_empty : goal.returns-then-is_empty
returns-then-is_empty c =
    let rest = c.behind_blank_lines-text.result.now in
    alike-here c.args.text.now rest c.behind_blank_lines-text.ensures ∙ none-in-empty rest (sym c.is_empty.ensures ∙ c.if-is_empty.true)

pub returns-in-Some : goal.returns-in-Some
returns-in-Some c = rw (alike-here c.args.text.now c.behind_blank_lines-text.result.now c.behind_blank_lines-text.ensures, c.of-in-Some.ensures) (rw c.in-Some.is at c.in_ok-rest.ensures)

pub returns : goal.returns
returns c = rw (alike-here c.args.text.now c.behind_blank_lines-text.result.now c.behind_blank_lines-text.ensures) c.read_front.ensures
