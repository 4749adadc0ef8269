-- When a row of a script is faulty: each fault is a condition on the row and the rows before it, and the first whose condition holds is
-- the row's. This project's own profile.
use Rattle.std.specs.Prelude.{ℕ, ◌+◌, ◌==◌, ◌&&◌, ◌||◌, List, length, Bool, true, false, not, nat_lt, nat_le, Option, Some, None, is_some, Result, Ok, Err, if◌then◌else◌, codes}
use Rattle.std.specs.Str.{bytes_eq}
use Rattle.trace_text.specs.Fields.{Record, field}
use Rattle.trace_text.specs.Faults.{is_between}
use Rattle.trace_text.specs.declared.fault.Fault.{Fault}
use Rattle.trace_text.specs.declared.fault.Fault.TheVariants as fault
use Rattle.script_text.specs.Rows.{script_kind_of, fields_in, is_readable_row, script_row_of, event_of}
use Rattle.script_text.specs.Earlier.{pair_of, is_ended, events_in_rows, total_in_rows}
use Rattle.script_text.specs.declared.kind.Kind.{Kind}
use Rattle.script_text.specs.declared.row.Row.{Row}
use Rattle.script_text.specs.declared.row.Row.TheVariants as row

-- each number is in its range, at so many endpoints
abbrev pub is_row_in_range : ℕ → Row → Bool
is_row_in_range n (row.Pair endpoints b span) = is_between 2 64 endpoints && is_between 1 64 b && is_between 1 100 span
is_row_in_range n (row.Ask src dst slots) = nat_lt src n && nat_lt dst n && is_between 1 100000000 slots
is_row_in_range n (row.Request node) = nat_le node 1
is_row_in_range n (row.Grant m) = true
is_row_in_range n (row.Take node m) = nat_le node 1
is_row_in_range n (row.Tell src node) = nat_lt src n && nat_le node 1
is_row_in_range n (row.Publish node) = nat_le node 1
is_row_in_range n (row.Hear src batch) = nat_lt src n
is_row_in_range n (row.Crash node) = nat_le node 1
is_row_in_range n row.End = true

-- an endpoint asks for itself
abbrev pub asks_for_itself : Row → Bool
asks_for_itself (row.Ask src dst slots) = src == dst
asks_for_itself other = false

abbrev pub is_pair : Row → Bool
is_pair (row.Pair endpoints b span) = true
is_pair other = false

-- no row stands before
abbrev pub is_first_row : List Row → Bool
is_first_row before = length before == 0

-- a pair after the first row, a row after the end, or the 10,001st event
abbrev pub is_row_out_of_order : List Row → Row → Bool
is_row_out_of_order before this = (is_pair this && not (is_first_row before)) || is_ended before || (is_some (event_of this) && nat_le 10000 (length (events_in_rows before)))

-- the asks of this flow up to this row are too much together
abbrev pub asks_too_much : List Row → Row → Bool
asks_too_much before (row.Ask src dst slots) = nat_lt 100000000 (total_in_rows src dst before + slots)
asks_too_much before other = false

-- the fault of a row that could be read, or the row
unfoldable pub checked_script_row : List Row → Row → Result Row Fault
checked_script_row before this =
    if not (is_row_in_range (pair_of before).endpoints this) then Err fault.Range
    else if asks_for_itself this then Err fault.SelfFlow
    else if is_row_out_of_order before this then Err fault.Order
    else if asks_too_much before this then Err fault.Sum
    else Ok this

-- the fault of a row of this kind, or the row
unfoldable pub read_script_kind : List Row → Record → Kind → Result Row Fault
read_script_kind before fields k =
    if not (length fields == fields_in k) then Err fault.Fields
    else if not (is_readable_row k fields) then Err fault.Number
    else checked_script_row before (script_row_of k fields)

abbrev pub read_script_named : List Row → Record → Option Kind → Result Row Fault
read_script_named before fields None = Err fault.Kind
read_script_named before fields (Some k) = read_script_kind before fields k

-- the fault of a row after the rows before it, or the row
unfoldable pub read_script_row : List Row → Record → Result Row Fault
read_script_row before fields =
    if is_first_row before && not (bytes_eq (field fields 0) (codes "pair")) then Err fault.NoNet
    else read_script_named before fields (script_kind_of (field fields 0))
