use Rattle.std.proofs.Common.{◌≡◌, List, [], length}
use Rattle.trace_text.specs.Trace.{records_of_text}
use Rattle.script_text.specs.Script.{script_rows_after}
use Rattle.script_text.specs.Standing.{ScriptStandsFor}
use Rattle.script_text.specs.declared.row.Row.{Row}
use Rattle.script_text.proofs.read.read_script.Given as goal

abbrev pub invariant-loop-rows : goal.invariant-loop-rows
invariant-loop-rows l = (before : List Row) × ScriptStandsFor before l.rows × (script_rows_after (records_of_text l.bytes) [] ≡ script_rows_after l.records.value before)

abbrev pub decreases-loop-rows : goal.decreases-loop-rows
decreases-loop-rows l = length l.records.value
