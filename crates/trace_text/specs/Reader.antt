-- What a reader has read of a text that is given piece by piece.
use Rattle.std.specs.Prelude.{◌≡◌, ℕ, ◌+◌, ◌≤◌, Bool, List, [], ◌++◌, length, Option, Some, None}
use Rattle.trace_text.specs.Rows.{Row}
use Rattle.trace_text.specs.Standing.{StandsFor}
use Rattle.trace_text.specs.Trace.{IsFaultOf, records_of_text, rows_after, trace_of}
use Rattle.trace_text.specs.Mark.{records_of_left}
use Rattle.trace_text.specs.declared.command.Command.{Command}
use Rattle.trace_text.specs.declared.fault.TraceRefused.{TraceRefused}
use Rattle.trace_text.specs.declared.rows.Rows.{Rows}
use Rattle.trace_text.specs.declared.reader.TraceReader.{TraceReader}

-- rows of the text were taken, for which what is kept stands, and the rest of it is left: however the text goes on, its rows are
-- these and then those of what is left, which goes on so, and they are no more than bytes
abbrev pub RowsAreTaken : Command → List ℕ → Rows → Bool → List ℕ → Type 0
RowsAreTaken command text rows is_start left =
    (before : List Row) × StandsFor before rows × ((more : List ℕ) → rows_after command (records_of_text (text ++ more)) [] ≡ rows_after command (records_of_left is_start (left ++ more)) before)
    × ((more : List ℕ) → length before + length (records_of_left is_start (left ++ more)) ≤ length text + length more)

-- rows were taken; or the first faulty row was found, which it is however the text goes on
abbrev pub AreTakenOrFaulty : Command → List ℕ → Rows → Bool → List ℕ → Option TraceRefused → Type 0
AreTakenOrFaulty command text rows is_start left None = RowsAreTaken command text rows is_start left
AreTakenOrFaulty command text rows is_start left (Some refused) = (more : List ℕ) → IsFaultOf (trace_of command (text ++ more)) refused

-- the reader has read this text, by this command
abbrev pub HasRead : Command → List ℕ → TraceReader → Type 0
HasRead command text reader = (reader.command ≡ command) × AreTakenOrFaulty command text reader.rows reader.is_start reader.left.items reader.refused

-- what the reader has read and so many bytes more are no longer than a text may be
abbrev pub MayRead : ℕ → TraceReader → Type 0
MayRead size reader = (command : Command) × (text : List ℕ) × HasRead command text reader × (length text + size ≤ 67108864)
