use Rattle.std.proofs.Common.{Ok, Err, ◌∙◌, arith}
use Rattle.std.proofs.lemmas.Result.{err_from_is_err_and}
use Rattle.csv.specs.Records.{fields_of}
use Rattle.trace_text.proofs.FirstFields.{alike-takes}
use Rattle.trace_text.proofs.WholeLineFacts.{lines-room, lines-then, one-less, record-refused, record-taken}
use Rattle.trace_text.proofs.whole_lines.take_first.Goals as goal

pub returns-in_err-take_ask-clause-rows : goal.returns-in_err-take_ask-clause-rows
returns-in_err-take_ask-clause-rows c = λ before stands.
    let text = c.args.text.now in
    let rest = c.in-Some.rest.now in
    let (fields, ask, found) = c.in-Some.ensures in
    let p = err_from_is_err_and c.from_residual.result c.from_residual.ensures.1 in
    rw (p.1, p.2)
    (record-refused c.args.command before text rest fields c.take_ask.new.self c.in_err-take_ask.field-0.0 (λ more. c.behind_blank_lines-text.ensures more ∙ found more)
    (c.in_err-take_ask.ensures before fields stands ask))

pub take_asks-requires-clause-room : goal.take_asks-requires-clause-room
take_asks-requires-clause-room c =
    let text = c.args.text.now in
    let rest = c.in-Some.rest.now in
    let (fields, ask, found) = c.in-Some.ensures in
    let (before, stands) = c.requires.stands in
    let lines = record-taken c.args.command before text rest fields c.take_ask.new.self (λ more. c.behind_blank_lines-text.ensures more ∙ found more) (c.in_ok-take_ask.ensures before fields stands ask) in
    omega (arith, lines-room c.args.command before text rest c.args.rows.now c.take_ask.new.self stands lines, c.requires.room)

pub returns-in-Some-clause-rows : goal.returns-in-Some-clause-rows
returns-in-Some-clause-rows c = λ before stands.
    let text = c.args.text.now in
    let rest = c.in-Some.rest.now in
    let (fields, ask, found) = c.in-Some.ensures in
    let lines = record-taken c.args.command before text rest fields c.take_ask.new.self (λ more. c.behind_blank_lines-text.ensures more ∙ found more) (c.in_ok-take_ask.ensures before fields stands ask) in
    lines-then c.args.command before text rest c.take_asks.result.now c.take_ask.new.self c.take_asks.new.self lines (c.take_asks.ensures.rows lines.0 lines.1)

pub returns-in-Some-clause-fewer : goal.returns-in-Some-clause-fewer
returns-in-Some-clause-fewer c =
    let (fields, ask, found) = c.in-Some.ensures in
    omega (arith, c.take_asks.ensures.fewer, one-less c.args.text.now c.in-Some.rest.now fields (λ more. c.behind_blank_lines-text.ensures more ∙ found more))

pub returns-in_err-take_ask-2-clause-rows : goal.returns-in_err-take_ask-2-clause-rows
returns-in_err-take_ask-2-clause-rows c = λ before stands.
    let (fields, ask, found) = c.in-Some-quoted_ask.ensures in
    let p = err_from_is_err_and c.from_residual-in_err-take_ask-2.result c.from_residual-in_err-take_ask-2.ensures.1 in
    rw (p.1, p.2)
    (record-refused c.args.command before c.args.text.now c.in-Some-quoted_ask.rest.now fields c.take_ask-in-Some-quoted_ask.new.self c.in_err-take_ask-2.field-0.0
    (λ more. c.behind_blank_lines-text.ensures more ∙ found more) (c.in_err-take_ask-2.ensures before fields stands ask))

pub returns-in-Some-quoted_ask-clause-rows : goal.returns-in-Some-quoted_ask-clause-rows
returns-in-Some-quoted_ask-clause-rows c = λ before stands.
    let (fields, ask, found) = c.in-Some-quoted_ask.ensures in
    record-taken c.args.command before c.args.text.now c.in-Some-quoted_ask.rest.now fields c.take_ask-in-Some-quoted_ask.new.self (λ more. c.behind_blank_lines-text.ensures more ∙ found more)
    (c.in_ok-take_ask-2.ensures before fields stands ask)

pub returns-in-Some-quoted_ask-clause-fewer : goal.returns-in-Some-quoted_ask-clause-fewer
returns-in-Some-quoted_ask-clause-fewer c =
    let (fields, ask, found) = c.in-Some-quoted_ask.ensures in
    one-less c.args.text.now c.in-Some-quoted_ask.rest.now fields (λ more. c.behind_blank_lines-text.ensures more ∙ found more)

pub returns-in_err-take-clause-rows : goal.returns-in_err-take-clause-rows
returns-in_err-take-clause-rows c = λ before stands.
    let (whole, kept, found) = rw c.in-Some-2.is at c.in_ok-rest.ensures in
    let p = err_from_is_err_and c.from_residual-in_err-take.result c.from_residual-in_err-take.ensures.1 in
    rw (p.1, p.2)
    (record-refused c.args.command before c.args.text.now c.in-Some-2.rest.now whole c.take.new.self c.in_err-take.field-0.0 (λ more. c.behind_blank_lines-text.ensures more ∙ found more)
    (alike-takes c.args.command before (fields_of c.read_whole_line.new.fields) whole c.take.new.self (Err c.in_err-take.field-0.0) kept (c.in_err-take.ensures before stands)))

pub returns-clause-rows : goal.returns-clause-rows
returns-clause-rows c = λ before stands.
    let (whole, kept, found) = rw c.in-Some-2.is at c.in_ok-rest.ensures in
    record-taken c.args.command before c.args.text.now c.in-Some-2.rest.now whole c.take.new.self (λ more. c.behind_blank_lines-text.ensures more ∙ found more)
    (alike-takes c.args.command before (fields_of c.read_whole_line.new.fields) whole c.take.new.self (Ok c.in_ok-take.field-0) kept (c.in_ok-take.ensures before stands))

pub returns-clause-fewer : goal.returns-clause-fewer
returns-clause-fewer c =
    let (whole, kept, found) = rw c.in-Some-2.is at c.in_ok-rest.ensures in
    one-less c.args.text.now c.in-Some-2.rest.now whole (λ more. c.behind_blank_lines-text.ensures more ∙ found more)
