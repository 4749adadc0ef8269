-- Whole lines at the front of a text, taken as rows one after the other.
use Rattle.std.proofs.Common.{◌≡◌, ℕ, ◌+◌, ◌<◌, List, [], ◌∷◌, ◌++◌, length, Ok, Err, sym, ap, ◌∙◌, arith, append-nil}
use Rattle.trace_text.specs.Fields.{Record}
use Rattle.trace_text.specs.Rows.{Row}
use Rattle.trace_text.specs.Lines.{records_in}
use Rattle.trace_text.specs.Trace.{IsFaultOf, content_or_fault, rows_after}
use Rattle.trace_text.specs.Standing.{ReadsRecords, RefusesLines, StandsFor, TakesLines, TakesRow}
use Rattle.trace_text.specs.declared.command.Command.{Command}
use Rattle.trace_text.specs.declared.fault.TraceRefused.{TraceRefused}
use Rattle.trace_text.specs.declared.fault.TraceRefused.TheVariants as refused
use Rattle.trace_text.specs.declared.rows.Rows.{Rows}
use Rattle.trace_text.proofs.EndFacts.{record-here}
use Rattle.trace_text.proofs.RowFacts.{length-more}
use Rattle.trace_text.proofs.TraceFacts.{rows_after-ok, rows_after-err}

-- a text shows this record first, however it goes on
abbrev Shows : List ℕ → Record → List ℕ → Type 0
Shows text fields rest = (more : List ℕ) → records_in (text ++ more) ≡ fields ∷ records_in (rest ++ more)

-- its row was taken, or refused
pub record-taken : (command : Command) (before : List Row) (text rest : List ℕ) (fields : Record) (rows : Rows) → Shows text fields rest → TakesRow command before fields rows (Ok tt) → TakesLines command before text rows rest
record-taken command before text rest fields rows found (row, read, stands) = (
  before ++ row ∷ [],
  stands,
  λ more. ap (λ (l : List Record). rows_after command l before) (found more) ∙ rows_after-ok command fields (records_in (rest ++ more)) before row read,
  λ more. omega (arith, length-more before row, ap length (found more)),
)

pub record-refused : (command : Command) (before : List Row) (text rest : List ℕ) (fields : Record) (rows : Rows) (e : TraceRefused) → Shows text fields rest → TakesRow command before fields rows (Err e) → RefusesLines command before text e
record-refused command before text rest fields rows (refused.Row row fault) found (read, here) = λ more.
    ap (λ (l : List Record). rows_after command l before) (found more) ∙ rows_after-err command fields (records_in (rest ++ more)) before fault read
    ∙ ap (λ k. Err (record { row = k; fault = fault })) (sym here)
record-refused command before text rest fields rows refused.Memory found takes = tt

-- there is a record less
pub one-less : (text rest : List ℕ) (fields : Record) → Shows text fields rest → length (records_in rest) < length (records_in text)
one-less text rest fields found = omega (arith, ap length (record-here text rest fields found))

-- lines were taken, and then others, or one of those was refused
pub lines-then : (command : Command) (before : List Row) (text rest last : List ℕ) (rows new : Rows) → (taken : TakesLines command before text rows rest) → TakesLines command taken.0 rest new last → TakesLines command before text new last
lines-then command before text rest last rows new taken more_taken = (
  more_taken.0,
  more_taken.1,
  λ more. taken.2 more ∙ more_taken.2 more,
  λ more. more_taken.3 more ∙ taken.3 more,
)

pub refused-then : (command : Command) (before : List Row) (text rest : List ℕ) (rows : Rows) (e : TraceRefused) → (taken : TakesLines command before text rows rest) → RefusesLines command taken.0 rest e → RefusesLines command before text e
refused-then command before text rest rows (refused.Row row fault) taken told = λ more. taken.2 more ∙ told more
refused-then command before text rest rows refused.Memory taken told = tt

-- each row that was taken is a record less
pub lines-room : (command : Command) (before : List Row) (text rest : List ℕ) (rows new : Rows) → StandsFor before rows → TakesLines command before text new rest
    → new.count + length (records_in rest) ≡ rows.count + length (records_in text)
lines-room command before text rest rows new stands (after, kept, same, count) =
    let here : length after + length (records_in rest) ≡ length before + length (records_in text) =
    ap (λ (l : List ℕ). length after + length (records_in l)) (sym (append-nil rest)) ∙ count [] ∙ ap (λ (l : List ℕ). length before + length (records_in l)) (append-nil text) in
    omega (arith, here, stands.count, kept.count)

-- lines of a text that does not go on, as its records
pub records-taken : (command : Command) (before : List Row) (text rest : List ℕ) (rows : Rows) → TakesLines command before text rows rest → ReadsRecords command before (records_in text) rows (records_in rest) (Ok tt)
records-taken command before text rest rows (after, stands, same, count) = (
  after,
  stands,
  ap (λ (l : List ℕ). rows_after command (records_in l) before) (sym (append-nil text)) ∙ same [] ∙ ap (λ (l : List ℕ). rows_after command (records_in l) after) (append-nil rest),
  ap (λ (l : List ℕ). length after + length (records_in l)) (sym (append-nil rest)) ∙ count [] ∙ ap (λ (l : List ℕ). length before + length (records_in l)) (append-nil text),
)

pub records-refused : (command : Command) (before : List Row) (text : List ℕ) (e : TraceRefused) → RefusesLines command before text e → IsFaultOf (content_or_fault (rows_after command (records_in text) before)) e
records-refused command before text (refused.Row row fault) told = ap content_or_fault (ap (λ (l : List ℕ). rows_after command (records_in l) before) (sym (append-nil text)) ∙ told [])
records-refused command before text refused.Memory told = tt

-- records were read, and then others
pub records-then : (command : Command) (before : List Row) (all left last : List Record) (rows new : Rows) → (read : ReadsRecords command before all rows left (Ok tt)) → ReadsRecords command read.0 left new last (Ok tt)
    → ReadsRecords command before all new last (Ok tt)
records-then command before all left last rows new read more = (more.0, more.1, read.2 ∙ more.2, more.3 ∙ read.3)

-- a record was read, and its row taken
pub record-read : (command : Command) (before : List Row) (all left : List Record) (fields : Record) (rows : Rows) → all ≡ fields ∷ left → TakesRow command before fields rows (Ok tt) → ReadsRecords command before all rows left (Ok tt)
record-read command before all left fields rows found (row, read, stands) = (
  before ++ row ∷ [],
  stands,
  ap (λ (l : List Record). rows_after command l before) found ∙ rows_after-ok command fields left before row read,
  omega (arith, length-more before row, ap length found),
)
