use Rattle.std.proofs.Common.{List, ap, ◌∙◌, Ok, Err, arith}
use Rattle.std.proofs.lemmas.Result.{err_from_is_err_and}
use Rattle.csv.specs.Records.{fields_of}
use Rattle.trace_text.specs.Lines.{records_in}
use Rattle.trace_text.specs.Rows.{Row}
use Rattle.trace_text.specs.Standing.{ReadsRecords, StandsFor}
use Rattle.trace_text.specs.Trace.{rows_after}
use Rattle.trace_text.proofs.FirstFields.{alike-takes}
use Rattle.trace_text.proofs.TraceFacts.{finished, rows_after-none, told}
use Rattle.trace_text.proofs.WholeLineFacts.{record-read, records-then}
use Rattle.trace_text.proofs.read.read_rest.Goals as goal

pub loop-fields-preserved : goal.loop-fields-preserved
loop-fields-preserved c =
    let command = c.args.command in
    let left = c.take_lines.new.records in
    let last = c.read.new.self in
    let new = c.take.new.self in
    let (whole, kept, next) = rw c.in-Fields.is at c.in_ok-read.ensures in
    let step : (before : List Row) → StandsFor before c.loop-fields.rows → ReadsRecords command before c.loop-fields.records new last (Ok tt) = λ before stands.
    let lines = c.in_ok-take_lines.ensures.rows before stands in
    let taken = alike-takes command lines.0 (fields_of c.read.new.fields) whole new (Ok tt) kept (c.in_ok-take-in-Fields.ensures lines.0 lines.1) in
    records-then command before c.loop-fields.records left last c.take_lines.new.rows new lines (record-read command lines.0 left last whole new next taken) in
    let (start, stands) = c.loop-fields.invariant.kept in
    let taken = step start stands in
    record {
      kept = (taken.0, taken.1);
      lines = λ before s.
          let read = c.loop-fields.invariant.lines before s in
          records-then command before (records_in c.args.text.now) c.loop-fields.records last c.loop-fields.rows new read (step read.0 read.1);
      room = omega (arith, c.loop-fields.invariant.room, taken.3, stands.count, taken.1.count);
    }

pub returns-in_err-take-in-Fields : goal.returns-in_err-take-in-Fields
returns-in_err-take-in-Fields c = λ before s.
    let command = c.args.command in
    let read = c.loop-fields.invariant.lines before s in
    let lines = c.in_ok-take_lines.ensures.rows read.0 read.1 in
    let (whole, kept, next) = rw c.in-Fields.is at c.in_ok-read.ensures in
    let p = err_from_is_err_and c.from_residual-in_err-take-in-Fields.result c.from_residual-in_err-take-in-Fields.ensures.1 in
    rw (p.1, p.2)
    (told command (records_in c.args.text.now) before whole c.read.new.self lines.0 c.take.new.self c.in_err-take-in-Fields.field-0.0 (read.2 ∙ lines.2 ∙ ap (λ l. rows_after command l lines.0) next)
    (alike-takes command lines.0 (fields_of c.read.new.fields) whole c.take.new.self (Err c.in_err-take-in-Fields.field-0.0) kept (c.in_err-take-in-Fields.ensures lines.0 lines.1)))

pub returns-in-TooMany : goal.returns-in-TooMany
returns-in-TooMany c = λ before s.
    let command = c.args.command in
    let read = c.loop-fields.invariant.lines before s in
    let lines = c.in_ok-take_lines.ensures.rows read.0 read.1 in
    let (many, after, (whole, kept, next)) = rw c.in-TooMany.is at c.in_ok-read.ensures in
    told command (records_in c.args.text.now) before whole after lines.0 c.take_lines.new.rows c.refuse_too_many.result (read.2 ∙ lines.2 ∙ ap (λ l. rows_after command l lines.0) next)
    (alike-takes command lines.0 (fields_of c.read.new.fields) whole c.take_lines.new.rows (Err c.refuse_too_many.result) kept (c.refuse_too_many.ensures lines.0 lines.1))

pub returns-in-End : goal.returns-in-End
returns-in-End c = λ before s.
    let command = c.args.command in
    let read = c.loop-fields.invariant.lines before s in
    let lines = c.in_ok-take_lines.ensures.rows read.0 read.1 in
    let none = rw c.in-End.is at c.in_ok-read.ensures in
    finished command (records_in c.args.text.now) before lines.0 c.take_lines.new.rows c.finish.result
    (read.2 ∙ lines.2 ∙ ap (λ l. rows_after command l lines.0) none ∙ rows_after-none command lines.0) lines.1 c.finish.ensures
