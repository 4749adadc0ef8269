-- A text as a script: its rows, or the first faulty one. This project's own profile.
use Rattle.std.specs.Prelude.{◌≡◌, ◌≤◌, ⊤, ℕ, ◌+◌, List, [], ◌∷◌, ◌++◌, length, take, reverse, slice_get, Some, Bool, true, false, Result, Ok, Err}
use Rattle.takeover_history.specs.declared.event.Event.{Event}
use Rattle.takeover_core.specs.Outcomes.{MayFollow}
use Rattle.takeover_core.specs.Standing.{IsPairSetting}
use Rattle.trace_text.specs.Fields.{Record}
use Rattle.trace_text.specs.Trace.{records_of_text, FaultyRow}
use Rattle.trace_text.specs.declared.fault.Fault.{Fault}
use Rattle.trace_text.specs.declared.fault.Fault.TheVariants as fault
use Rattle.trace_text.specs.declared.fault.TraceRefused.{TraceRefused}
use Rattle.trace_text.specs.declared.fault.TraceRefused.TheVariants as refused
use Rattle.script_text.specs.Content.{ScriptContent}
use Rattle.script_text.specs.Earlier.{pair_of, is_ended, events_in_rows}
use Rattle.script_text.specs.Faults.{read_script_row}
use Rattle.script_text.specs.declared.row.Row.{Row}

abbrev pub script_content : List Row → ScriptContent
script_content rows = record { pair = pair_of rows; events = events_in_rows rows }

-- what stands after the last row: a script begins with a pair and ends with its end
abbrev pub ended_script : List Row → Bool → Result ScriptContent FaultyRow
ended_script [] last = Err (record { row = 1; fault = fault.NoNet })
ended_script (first ∷ rows) true = Ok (script_content (first ∷ rows))
ended_script (first ∷ rows) false = Err (record { row = length (first ∷ rows) + 1; fault = fault.NoEnd })

-- one row more, or its number and fault
abbrev pub script_row_more : (List Row → Result ScriptContent FaultyRow) → List Row → Result Row Fault → Result ScriptContent FaultyRow
script_row_more more before (Ok row) = more (before ++ row ∷ [])
script_row_more more before (Err f) = Err (record { row = length before + 1; fault = f })

-- the rows before and then these, or the first of these that is faulty
unfoldable pub script_rows_after : List Record → List Row → Result ScriptContent FaultyRow
script_rows_after [] before = ended_script before (is_ended before)
script_rows_after (fields ∷ records) before = script_row_more (script_rows_after records) before (read_script_row before fields)

-- what the script of a text holds, or the first faulty row
abbrev pub script_of : List ℕ → Result ScriptContent FaultyRow
script_of text = script_rows_after (records_of_text text) []

-- the refusal tells the first faulty row, or want of memory
abbrev pub IsScriptFaultOf : Result ScriptContent FaultyRow → TraceRefused → Type 0
IsScriptFaultOf script (refused.Row row fault) = script ≡ Err (record { row = row; fault = fault })
IsScriptFaultOf script refused.Memory = ⊤

-- a script may happen: its pair is in range, and each event may follow those before it
pub record IsScript (script : ScriptContent) : Type 0 where
  pub pair : IsPairSetting script.pair
  pub few : length script.events ≤ 10000
  pub may : (at : ℕ) (event : Event) → slice_get script.events at ≡ Some event → MayFollow script.pair (reverse (take at script.events)) event
