-- The rows so far, as a program keeps them, and what it answers to the next one.
use Rattle.std.specs.Prelude.{◌≡◌, ⊤, ◌<◌, ◌≤◌, ℕ, ◌+◌, ◌*◌, ◌==◌, ◌&&◌, ◌||◌, not, nat_le, nat_lt, is_some, Bool, true, false, List, [], ◌∷◌, ◌++◌, length, slice_index, Option, Some, None, Result, Ok, Err, if◌then◌else◌}
use Rattle.takeover_history.specs.Events.{PairSetting}
use Rattle.trace_text.specs.Fields.{Record}
use Rattle.trace_text.specs.declared.fault.Fault.{Fault}
use Rattle.trace_text.specs.declared.fault.TraceRefused.{TraceRefused}
use Rattle.trace_text.specs.declared.fault.TraceRefused.TheVariants as refused
use Rattle.script_text.specs.Rows.{event_of}
use Rattle.script_text.specs.Earlier.{pair_in, pair_of, is_end, is_ended, events_in_rows, script_row_slots, total_in_rows}
use Rattle.script_text.specs.Faults.{is_row_in_range, is_pair, read_script_row}
use Rattle.script_text.specs.Content.{ScriptContent}
use Rattle.script_text.specs.Script.{IsScriptFaultOf, ended_script}
use Rattle.script_text.specs.declared.row.Row.{Row}
use Rattle.script_text.specs.declared.row.Row.TheVariants as row
use Rattle.script_text.specs.declared.rows.Rows.{Rows}

abbrev pub pair_kept : Rows → PairSetting
pair_kept rows = record { endpoints = rows.endpoints; b = rows.b; span = rows.span }

-- what is kept is what the rows before say together
pub record ScriptStandsFor (before : List Row) (rows : Rows) : Type 0 where
  pub count : rows.count ≡ length before
  pub pair : pair_kept rows ≡ pair_of before
  pub few : rows.endpoints ≤ 64
  pub ended_is : rows.ended ≡ is_ended before
  pub events_are : rows.events.items ≡ events_in_rows before
  pub many : length rows.totals.items ≡ 4096
  pub totals_are : (src dst : ℕ) → src < 64 → dst < 64 → slice_index rows.totals.items (src * 64 + dst) ≡ total_in_rows src dst before
  -- there is one pair at most, and one end
  pub most : length rows.events.items ≤ 10000
  pub bounded : rows.count ≤ length rows.events.items + 1 + (if rows.ended then 1 else 0)

abbrev pub RowsStand : Rows → Type 0
RowsStand rows = (before : List Row) × ScriptStandsFor before rows

-- the faults of order and of sums, by what is kept
abbrev pub has_order_fault : Rows → Row → Bool
has_order_fault rows this = (is_pair this && not (rows.count == 0)) || rows.ended || (is_some (event_of this) && nat_le 10000 (length rows.events.items))

abbrev pub has_sum_fault : Rows → Row → Bool
has_sum_fault rows (row.Ask src dst slots) = nat_lt 100000000 (slice_index rows.totals.items (src * 64 + dst) + slots)
has_sum_fault rows other = false

-- the row, or this fault
abbrev pub script_row_unless : Row → Option Fault → Result Row Fault
script_row_unless this None = Ok this
script_row_unless this (Some fault) = Err fault

abbrev pub as_script_row : Result Row Fault → Result Row Fault
as_script_row answer = answer

-- what the code relies on of a row without fault
pub record IsAllowedRow (rows : Rows) (this : Row) : Type 0 where
  pub range : is_row_in_range rows.endpoints this ≡ true
  pub order : has_order_fault rows this ≡ false
  pub sum : has_sum_fault rows this ≡ false
  pub few : rows.endpoints ≤ 64
  pub many : length rows.totals.items ≡ 4096

-- one row more is kept
pub record AddsRow (old new : Rows) (this : Row) : Type 0 where
  pub count : new.count ≡ old.count + 1
  pub pair : pair_kept new ≡ (if is_pair this then pair_in this else pair_kept old)
  pub few : new.endpoints ≤ 64
  pub ended_is : new.ended ≡ (old.ended || is_end this)
  pub events_are : new.events.items ≡ old.events.items ++ events_in_rows (this ∷ [])
  pub many : length new.totals.items ≡ 4096
  pub totals_are : (src dst : ℕ) → src < 64 → dst < 64 → slice_index new.totals.items (src * 64 + dst) ≡ slice_index old.totals.items (src * 64 + dst) + script_row_slots src dst this

-- the next row was taken, or its fault told
abbrev pub TakesScriptRow : List Row → Record → Rows → Result (Unit {0}) TraceRefused → Type 0
TakesScriptRow before fields rows (Ok _) = (this : Row) × (read_script_row before fields ≡ Ok this) × ScriptStandsFor (before ++ this ∷ []) rows
TakesScriptRow before fields rows (Err (refused.Row row fault)) = (read_script_row before fields ≡ Err fault) × (row ≡ length before + 1)
TakesScriptRow before fields rows (Err refused.Memory) = ⊤

-- what stands after the last row
abbrev pub ScriptFinishes : Rows → Result ScriptContent TraceRefused → Type 0
ScriptFinishes rows (Ok script) = (before : List Row) → ScriptStandsFor before rows → ended_script before (is_ended before) ≡ Ok script
ScriptFinishes rows (Err refused) = (before : List Row) → ScriptStandsFor before rows → IsScriptFaultOf (ended_script before (is_ended before)) refused
