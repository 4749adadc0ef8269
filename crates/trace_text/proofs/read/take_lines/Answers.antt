use Rattle.std.proofs.lemmas.Result.{err_from_is_err_and}
use Rattle.trace_text.proofs.WholeLineFacts.{records-refused, records-taken}
use Rattle.trace_text.proofs.read.take_lines.Goals as goal

pub returns-in_err-rest-clause-rows : goal.returns-in_err-rest-clause-rows
returns-in_err-rest-clause-rows c = λ before stands.
    let text = c.in-Some.text.now in
    let p = err_from_is_err_and c.from_residual.result c.from_residual.ensures.1 in
    rw (p.1, p.2, c.in-Some.ensures) (records-refused c.args.command before text c.in_err-rest.field-0.0 (c.in_err-rest.ensures.rows before stands))

pub returns-in_ok-rest-clause-rows : goal.returns-in_ok-rest-clause-rows
returns-in_ok-rest-clause-rows c = λ before stands.
    let text = c.in-Some.text.now in
    rw (c.in-Some.ensures, c.go_on.ensures) (records-taken c.args.command before text c.in_ok-rest.rest.now c.take_whole_lines.new.rows (c.in_ok-rest.ensures.rows before stands))
