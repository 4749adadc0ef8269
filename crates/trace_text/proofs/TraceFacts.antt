-- A text row by row: what is known of the rows that were read is known of the text.
use Rattle.std.proofs.Common.{◌≡◌, ◌≢◌, ℕ, ◌+◌, List, [], ◌∷◌, ◌++◌, length, Some, Result, Ok, Err, refl, sym, ap, subst, ◌∙◌}
use Rattle.std.specs.Prelude.{sum_by, unwrap_or}
use Rattle.trace_text.specs.Fields.{Record}
use Rattle.trace_text.specs.Rows.{Row}
use Rattle.trace_text.specs.Earlier.{net_of, end_of, slots_in_round}
use Rattle.trace_text.specs.Faults.{read_row}
use Rattle.trace_text.specs.Trace.{TraceContent, IsFaultOf, content_by, content_or_fault, ended, events_of, puts_of, with_puts, rows_after}
use Rattle.trace_text.specs.Standing.{Finishes, ReadsRest, TakesRow, StandsFor}
use Rattle.trace_text.specs.declared.command.Command.{Command}
use Rattle.trace_text.specs.declared.fault.Fault.{Fault}
use Rattle.trace_text.specs.declared.fault.TraceRefused.{TraceRefused}
use Rattle.trace_text.specs.declared.fault.TraceRefused.TheVariants as refused
use Rattle.trace_text.specs.declared.rows.Rows.{Rows}

-- the rows have ended
pub ended-some : (before : List Row) (rounds : ℕ) → length before ≢ 0 → end_of before ≡ Some rounds
    → content_or_fault (ended before (end_of before)) ≡ Ok (with_puts (puts_of before) (content_by (net_of before) rounds (λ round src dst. sum_by (slots_in_round round src dst) before) (events_of before)))
ended-some [] rounds some e = absurd (some refl)
ended-some (row ∷ rows) rounds some e =
    ap content_or_fault (ap (ended (row ∷ rows)) e)
    ∙ ap (λ o. Ok (with_puts (puts_of (row ∷ rows)) (content_by (net_of (row ∷ rows)) (unwrap_or o 0) (λ round src dst. sum_by (slots_in_round round src dst) (row ∷ rows)) (events_of (row ∷ rows))))) e

-- a row was read
pub rows_after-ok : (command : Command) (fields : Record) (records : List Record) (before : List Row) (row : Row) → read_row command before fields ≡ Ok row
    → rows_after command (fields ∷ records) before ≡ rows_after command records (before ++ row ∷ [])
unfolding rows_after
rows_after-ok command fields records before row e = rw e refl

-- a row was faulty
pub rows_after-err : (command : Command) (fields : Record) (records : List Record) (before : List Row) (fault : Fault) → read_row command before fields ≡ Err fault
    → rows_after command (fields ∷ records) before ≡ Err (record { row = length before + 1; fault = fault })
unfolding rows_after
rows_after-err command fields records before fault e = rw e refl

-- no row is left
pub rows_after-none : (command : Command) (before : List Row) → rows_after command [] before ≡ ended before (end_of before)
unfolding rows_after
rows_after-none command before = refl

-- the rows of a text so far, and then a faulty one
pub told : (command : Command) (all : List Record) (start : List Row) (fields : Record) (records : List Record) (before : List Row) (rows : Rows) (e : TraceRefused)
    → rows_after command all start ≡ rows_after command (fields ∷ records) before → TakesRow command before fields rows (Err e) → IsFaultOf (content_or_fault (rows_after command all start)) e
told command all start fields records before rows (refused.Row row fault) same takes = rw (same, rows_after-err command fields records before fault takes.0, takes.1) refl
told command all start fields records before rows refused.Memory same takes = tt

-- all rows were read
pub finished : (command : Command) (all : List Record) (start before : List Row) (rows : Rows) (r : Result TraceContent TraceRefused)
    → rows_after command all start ≡ ended before (end_of before) → StandsFor before rows → Finishes rows r → ReadsRest command start all r
finished command all start before rows (Ok trace) same stands finish = let done = finish before stands in (ap content_or_fault same ∙ done.0, done.1)
finished command all start before rows (Err e) same stands finish = subst (λ t. IsFaultOf t e) (sym (ap content_or_fault same)) (finish before stands)
