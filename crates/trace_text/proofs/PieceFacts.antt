-- A text that is given piece by piece: what is known of the rows that were read is known of the text.
use Rattle.std.proofs.Common.{◌≡◌, ℕ, ◌+◌, ◌≤◌, List, [], ◌∷◌, ◌++◌, length, Bool, true, false, cond, Option, Some, None, Result, Ok, Err, IfOk, IfErr, refl, sym, ap, subst, ◌∙◌, arith, append-nil, append_assoc, length-append}
use Rattle.csv.specs.Reading.{is_bom, strip_bom}
use Rattle.csv.specs.declared.parser.State.TheVariants as st
use Rattle.trace_text.specs.Lines.{records_in}
use Rattle.trace_text.specs.Mark.{left_behind_mark, records_of_left}
use Rattle.trace_text.specs.Reader.{AreTakenOrFaulty, RowsAreTaken}
use Rattle.trace_text.specs.Standing.{ReadsRest, RefusesLines, StandsFor, TakesLines}
use Rattle.trace_text.specs.Trace.{TraceContent, IsFaultOf, content_or_fault, records_of_text, rows_after, trace_of}
use Rattle.trace_text.specs.Valid.{IsTrace}
use Rattle.trace_text.specs.declared.command.Command.{Command}
use Rattle.trace_text.specs.declared.fault.TraceRefused.{TraceRefused}
use Rattle.trace_text.specs.declared.fault.TraceRefused.TheVariants as refused
use Rattle.trace_text.specs.declared.rows.Rows.{Rows}
use Rattle.trace_text.proofs.CsvFacts.{length-records_from, length-strip_bom}

-- a text whose mark would be whole, behind its mark
strip-on : (text more : List ℕ) → 3 ≤ length text → strip_bom (text ++ more) ≡ strip_bom text ++ more
unfolding strip_bom
strip-on [] more long = absurd (omega arith)
strip-on (a ∷ []) more long = absurd (omega arith)
strip-on (a ∷ b ∷ []) more long = absurd (omega arith)
strip-on (a ∷ b ∷ c ∷ rest) more long = by (is_bom a b c)
  where
    by : (m : Bool) → cond m (rest ++ more) (a ∷ b ∷ c ∷ (rest ++ more)) ≡ cond m rest (a ∷ b ∷ c ∷ rest) ++ more
    by true = refl
    by false = refl

mark-on : (is_start : Bool) (left more : List ℕ) → 3 ≤ length left → left_behind_mark is_start (left ++ more) ≡ left_behind_mark is_start left ++ more
mark-on true left more long = strip-on left more long
mark-on false left more long = refl

-- no piece was given yet
pub none-given : (command : Command) (rows : Rows) → StandsFor [] rows → RowsAreTaken command [] rows true []
none-given command rows stands = (
  [],
  stands,
  λ more. refl,
  λ more. let text = strip_bom more in omega (arith, length-records_from (length text + 1) st.StartRecord text refl, length-strip_bom more),
)

-- a piece more was given
pub given-more : (command : Command) (text : List ℕ) (rows : Rows) (is_start : Bool) (left piece : List ℕ) → RowsAreTaken command text rows is_start left → RowsAreTaken command (text ++ piece) rows is_start (left ++ piece)
given-more command text rows is_start left piece (before, stands, same, few) = (
  before,
  stands,
  λ more.
      ap (λ (t : List ℕ). rows_after command (records_of_text t) []) (append_assoc text piece more) ∙ same (piece ++ more)
      ∙ ap (λ (l : List ℕ). rows_after command (records_of_left is_start l) before) (sym (append_assoc left piece more)),
  λ more.
      omega (arith, few (piece ++ more), ap (λ (l : List ℕ). length (records_of_left is_start l)) (append_assoc left piece more), length-append piece more, length-append text piece),
)

faulty-more : (command : Command) (text piece : List ℕ) (e : TraceRefused) → ((more : List ℕ) → IsFaultOf (trace_of command (text ++ more)) e) → (more : List ℕ) → IsFaultOf (trace_of command ((text ++ piece) ++ more)) e
faulty-more command text piece e faulty more = subst (λ (t : List ℕ). IsFaultOf (trace_of command t) e) (sym (append_assoc text piece more)) (faulty (piece ++ more))

-- the same of both
pub piece-more : (command : Command) (text : List ℕ) (rows : Rows) (is_start : Bool) (left piece : List ℕ) (refused : Option TraceRefused) → AreTakenOrFaulty command text rows is_start left refused
    → AreTakenOrFaulty command (text ++ piece) rows is_start (left ++ piece) refused
piece-more command text rows is_start left piece None taken = given-more command text rows is_start left piece taken
piece-more command text rows is_start left piece (Some e) faulty = faulty-more command text piece e faulty

-- a fault that a text has however it goes on, where it does not go on
pub faulty-read : (command : Command) (text : List ℕ) (e : TraceRefused) → ((more : List ℕ) → IsFaultOf (trace_of command (text ++ more)) e) → IsFaultOf (trace_of command text) e
faulty-read command text e faulty = subst (λ (t : List ℕ). IsFaultOf (trace_of command t) e) (append-nil text) (faulty [])

-- where no fault was found, rows were taken
pub sound-taken : (command : Command) (text : List ℕ) (rows : Rows) (is_start : Bool) (left : List ℕ) (refused : Option TraceRefused) → refused ≡ None → AreTakenOrFaulty command text rows is_start left refused
    → RowsAreTaken command text rows is_start left
sound-taken command text rows is_start left refused none read = subst (AreTakenOrFaulty command text rows is_start left) none read

-- whole lines of what was left were taken, or one was refused
pub taken-on : (command : Command) (text : List ℕ) (rows new : Rows) (is_start : Bool) (left rest : List ℕ) → 3 ≤ length left → (taken : RowsAreTaken command text rows is_start left)
    → TakesLines command taken.0 (left_behind_mark is_start left) new rest → RowsAreTaken command text new false rest
taken-on command text rows new is_start left rest long (before, stands, same, few) (after, kept, on, count) = (
  after,
  kept,
  λ more. same more ∙ ap (λ (l : List ℕ). rows_after command (records_in l) before) (mark-on is_start left more long) ∙ on more,
  λ more. omega (arith, few more, count more, ap (λ (l : List ℕ). length (records_in l)) (mark-on is_start left more long)),
)

pub faulty-on : (command : Command) (text : List ℕ) (rows : Rows) (is_start : Bool) (left : List ℕ) (e : TraceRefused) → 3 ≤ length left → (taken : RowsAreTaken command text rows is_start left)
    → RefusesLines command taken.0 (left_behind_mark is_start left) e → (more : List ℕ) → IsFaultOf (trace_of command (text ++ more)) e
unfolding trace_of
faulty-on command text rows is_start left (refused.Row row fault) long (before, stands, same, few) told more =
    ap content_or_fault (same more ∙ ap (λ (l : List ℕ). rows_after command (records_in l) before) (mark-on is_start left more long) ∙ told more)
faulty-on command text rows is_start left refused.Memory long taken told more = tt

-- the rows and what is left are no more than the text is long
pub taken-room : (command : Command) (text : List ℕ) (rows : Rows) (is_start : Bool) (left : List ℕ) → RowsAreTaken command text rows is_start left → rows.count + length (records_of_left is_start left) ≤ length text
taken-room command text rows is_start left (before, stands, same, few) =
    omega (arith, few [], ap (λ (l : List ℕ). length (records_of_left is_start l)) (append-nil left), stands.count)

-- the text was read to its end
pub text-read : (command : Command) (text : List ℕ) (rows : Rows) (is_start : Bool) (left : List ℕ) (r : Result TraceContent TraceRefused) → (taken : RowsAreTaken command text rows is_start left)
    → ReadsRest command taken.0 (records_of_left is_start left) r → IfOk r (λ trace. trace_of command text ≡ Ok trace) × IfOk r IsTrace × IfErr r (IsFaultOf (trace_of command text))
unfolding trace_of
text-read command text rows is_start left r (before, stands, same, few) reads = by r reads
  where
    all : rows_after command (records_of_text text) [] ≡ rows_after command (records_of_left is_start left) before
    all =
        ap (λ (t : List ℕ). rows_after command (records_of_text t) []) (sym (append-nil text)) ∙ same []
        ∙ ap (λ (l : List ℕ). rows_after command (records_of_left is_start l) before) (append-nil left)

    by : (r : Result TraceContent TraceRefused) → ReadsRest command before (records_of_left is_start left) r
        → IfOk r (λ trace. content_or_fault (rows_after command (records_of_text text) []) ≡ Ok trace) × IfOk r IsTrace × IfErr r (IsFaultOf (content_or_fault (rows_after command (records_of_text text) [])))
    by (Ok trace) (is, sound) = (ap content_or_fault all ∙ is, sound, tt)
    by (Err e) told = (tt, tt, subst (λ t. IsFaultOf t e) (sym (ap content_or_fault all)) told)
