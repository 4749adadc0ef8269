-- The rows of a script: their kinds, how many fields each kind has, and what these say. This project's own profile.
use Rattle.std.specs.Prelude.{ℕ, Bool, true, ◌&&◌, Option, Some, None, if◌then◌else◌, codes}
use Rattle.std.specs.Str.{bytes_eq}
use Rattle.trace_text.specs.Fields.{Field, Record, field_number_at, has_number}
use Rattle.takeover_history.specs.declared.event.Event.{Event}
use Rattle.takeover_history.specs.declared.event.Event.TheVariants as event
use Rattle.script_text.specs.declared.kind.Kind.{Kind}
use Rattle.script_text.specs.declared.kind.Kind.TheVariants as kind
use Rattle.script_text.specs.declared.row.Row.{Row}
use Rattle.script_text.specs.declared.row.Row.TheVariants as row

-- the kind that a row's first field names
abbrev pub script_kind_of : Field → Option Kind
script_kind_of name =
    if bytes_eq name (codes "pair") then Some kind.Pair else if bytes_eq name (codes "ask") then Some kind.Ask
    else if bytes_eq name (codes "request") then Some kind.Request else if bytes_eq name (codes "grant") then Some kind.Grant
    else if bytes_eq name (codes "take") then Some kind.Take else if bytes_eq name (codes "tell") then Some kind.Tell
    else if bytes_eq name (codes "publish") then Some kind.Publish else if bytes_eq name (codes "hear") then Some kind.Hear
    else if bytes_eq name (codes "crash") then Some kind.Crash else if bytes_eq name (codes "end") then Some kind.End else None

-- a row of a kind has so many fields with its first
abbrev pub fields_in : Kind → ℕ
fields_in kind.Pair = 4
fields_in kind.Ask = 4
fields_in kind.Request = 2
fields_in kind.Grant = 2
fields_in kind.Take = 3
fields_in kind.Tell = 3
fields_in kind.Publish = 2
fields_in kind.Hear = 3
fields_in kind.Crash = 2
fields_in kind.End = 1

-- each field but the first is a number
abbrev pub is_readable_row : Kind → Record → Bool
is_readable_row kind.Pair fields = has_number fields 1 && has_number fields 2 && has_number fields 3
is_readable_row kind.Ask fields = has_number fields 1 && has_number fields 2 && has_number fields 3
is_readable_row kind.Request fields = has_number fields 1
is_readable_row kind.Grant fields = has_number fields 1
is_readable_row kind.Take fields = has_number fields 1 && has_number fields 2
is_readable_row kind.Tell fields = has_number fields 1 && has_number fields 2
is_readable_row kind.Publish fields = has_number fields 1
is_readable_row kind.Hear fields = has_number fields 1 && has_number fields 2
is_readable_row kind.Crash fields = has_number fields 1
is_readable_row kind.End fields = true

-- what a readable row says
abbrev pub script_row_of : Kind → Record → Row
script_row_of kind.Pair fields = row.Pair (field_number_at fields 1) (field_number_at fields 2) (field_number_at fields 3)
script_row_of kind.Ask fields = row.Ask (field_number_at fields 1) (field_number_at fields 2) (field_number_at fields 3)
script_row_of kind.Request fields = row.Request (field_number_at fields 1)
script_row_of kind.Grant fields = row.Grant (field_number_at fields 1)
script_row_of kind.Take fields = row.Take (field_number_at fields 1) (field_number_at fields 2)
script_row_of kind.Tell fields = row.Tell (field_number_at fields 1) (field_number_at fields 2)
script_row_of kind.Publish fields = row.Publish (field_number_at fields 1)
script_row_of kind.Hear fields = row.Hear (field_number_at fields 1) (field_number_at fields 2)
script_row_of kind.Crash fields = row.Crash (field_number_at fields 1)
script_row_of kind.End fields = row.End

-- the event that a row tells
abbrev pub event_of : Row → Option Event
event_of (row.Pair endpoints b span) = None
event_of (row.Ask src dst slots) = Some (event.Ask src dst slots)
event_of (row.Request node) = Some (event.Request node)
event_of (row.Grant m) = Some (event.Grant m)
event_of (row.Take node m) = Some (event.Take node m)
event_of (row.Tell src node) = Some (event.Tell src node)
event_of (row.Publish node) = Some (event.Publish node)
event_of (row.Hear src batch) = Some (event.Hear src batch)
event_of (row.Crash node) = Some (event.Crash node)
event_of row.End = None
