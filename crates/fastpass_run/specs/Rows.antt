-- The rows that words ask for, and the first faulty one of a text that is read as such rows (this project's own profile).
use Rattle.std.specs.Prelude.{◌≡◌, ℕ, List, Option, Some, None, Result, Ok, Err}
use Rattle.trace_text.specs.declared.command.Command.{Command}
use Rattle.trace_text.specs.declared.command.Command.TheVariants.{Plan}
use Rattle.trace_text.specs.Trace.{FaultyRow, trace_of}
use Rattle.script_text.specs.Script.{script_of}
use Rattle.fastpass_run.specs.Outside.{Outside}
use Rattle.fastpass_run.specs.Transfer.{TakesAll}
use Rattle.fastpass_run.specs.Words.{Asked, asked_by_words}
use Rattle.fastpass_run.specs.Words.Asked.{writes, plans_by_need, audits, takes_over}
use Rattle.fastpass_run.specs.declared.words.Input.{Input}
use Rattle.fastpass_run.specs.declared.words.Input.TheVariants.{Read, Made}

-- a trace, read for a command, or the script of a takeover
pub data Rows : Type 0 where
  of_trace : Command → Rows
  of_script : Rows

abbrev pub fault_in : {A : Type 0} → Result A FaultyRow → Option FaultyRow
fault_in (Ok content) = None
fault_in (Err at) = Some at

-- the first faulty row of a text, if it has one
abbrev pub first_faulty : Rows → List ℕ → Option FaultyRow
first_faulty (of_trace command) bytes = fault_in (trace_of command bytes)
first_faulty of_script bytes = fault_in (script_of bytes)

abbrev pub rows_of_input : Input → Option Rows
rows_of_input (Read command) = Some (of_trace command)
rows_of_input (Made number) = None

-- the rows that are read for what is asked; none are for a made trace and for an audit
abbrev pub rows_of : Asked → Option Rows
rows_of (writes asked) = rows_of_input asked.input
rows_of (plans_by_need sizes) = Some (of_trace Plan)
rows_of (audits net b) = None
rows_of takes_over = Some of_script

-- the words ask for these rows to be read
abbrev pub AsksToRead : List (List ℕ) → Rows → Type 0
AsksToRead words rows = (asked : Asked) × (asked_by_words words ≡ Some asked) × (rows_of asked ≡ Some rows)

-- the source was read to its end, and its bytes, at most the limit, are so
abbrev pub IsReadAs : (List ℕ → Type 0) → Outside → Outside → Type 0
IsReadAs passes old new = TakesAll old.left new.left passes
