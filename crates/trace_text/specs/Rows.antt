-- The rows of a trace: their kinds, how many fields each kind has, and what these say. This project's own profile.
use Rattle.std.specs.Prelude.{ℕ, Bool, ◌&&◌, ◌||◌, ◌==◌, List, length, Option, Some, None, if◌then◌else◌, codes}
use Rattle.std.specs.Str.{bytes_eq}
use Rattle.loss_world.specs.declared.fate.Fate.{Fate}
use Rattle.loss_world.specs.declared.fate.Fate.TheVariants.{Lose, Twice, Hold}
use Rattle.trace_text.specs.Fields.{Field, Record, field, field_number_at, has_number, is_way, is_up, is_hex, bytes_of}
use Rattle.trace_text.specs.declared.kind.Kind.{Kind}
use Rattle.trace_text.specs.declared.kind.Kind.TheVariants as kind

-- a row, read field by field: what a packet of an endpoint meets on its way up or down, a boot and its version, a raw packet, a packet
-- that an endpoint puts
pub data Row : Type 0 where
  Net : (racks hosts cores : ℕ) → Row
  Ask : (round src dst slots : ℕ) → Row
  Meets : (round endpoint : ℕ) (up : Bool) (fate : Fate) → Row
  Boot : (round endpoint version : ℕ) → Row
  Raw : (round : ℕ) (packet : List ℕ) → Row
  Put : (endpoint : ℕ) (packet : List ℕ) → Row
  End : (rounds : ℕ) → Row

-- the kind that a row's first field names
abbrev pub kind_of : Field → Option Kind
kind_of name =
    if bytes_eq name (codes "net") then Some kind.Net else if bytes_eq name (codes "ask") then Some kind.Ask
    else if bytes_eq name (codes "lose") then Some kind.Lose else if bytes_eq name (codes "twice") then Some kind.Twice
    else if bytes_eq name (codes "hold") then Some kind.Hold else if bytes_eq name (codes "boot") then Some kind.Boot
    else if bytes_eq name (codes "raw") then Some kind.Raw else if bytes_eq name (codes "put") then Some kind.Put
    else if bytes_eq name (codes "end") then Some kind.End else None

-- a row of a kind has so many fields with its first; a boot may leave out its version
abbrev pub may_have : Kind → ℕ → Bool
may_have kind.Net count = count == 4
may_have kind.Ask count = count == 5
may_have kind.Lose count = count == 4
may_have kind.Twice count = count == 4
may_have kind.Hold count = count == 5
may_have kind.Boot count = count == 3 || count == 4
may_have kind.Raw count = count == 3
may_have kind.Put count = count == 3
may_have kind.End count = count == 2

-- the version of a boot, which is 1 where it is left out
abbrev pub has_version : Record → Bool
has_version fields = length fields == 3 || has_number fields 3

abbrev pub version_of_boot : Record → ℕ
version_of_boot fields = if length fields == 3 then 1 else field_number_at fields 3

-- each field that is to be a number, a way or bytes is one
abbrev pub is_readable : Kind → Record → Bool
is_readable kind.Net fields = has_number fields 1 && has_number fields 2 && has_number fields 3
is_readable kind.Ask fields = has_number fields 1 && has_number fields 2 && has_number fields 3 && has_number fields 4
is_readable kind.Lose fields = has_number fields 1 && has_number fields 2 && is_way (field fields 3)
is_readable kind.Twice fields = has_number fields 1 && has_number fields 2 && is_way (field fields 3)
is_readable kind.Hold fields = has_number fields 1 && has_number fields 2 && is_way (field fields 3) && has_number fields 4
is_readable kind.Boot fields = has_number fields 1 && has_number fields 2 && has_version fields
is_readable kind.Raw fields = has_number fields 1 && is_hex (field fields 2)
is_readable kind.Put fields = has_number fields 1 && is_hex (field fields 2)
is_readable kind.End fields = has_number fields 1

-- what a readable row says
abbrev pub trace_row_of : Kind → Record → Row
trace_row_of kind.Net fields = Net (field_number_at fields 1) (field_number_at fields 2) (field_number_at fields 3)
trace_row_of kind.Ask fields = Ask (field_number_at fields 1) (field_number_at fields 2) (field_number_at fields 3) (field_number_at fields 4)
trace_row_of kind.Lose fields = Meets (field_number_at fields 1) (field_number_at fields 2) (is_up (field fields 3)) Lose
trace_row_of kind.Twice fields = Meets (field_number_at fields 1) (field_number_at fields 2) (is_up (field fields 3)) Twice
trace_row_of kind.Hold fields = Meets (field_number_at fields 1) (field_number_at fields 2) (is_up (field fields 3)) (Hold (field_number_at fields 4))
trace_row_of kind.Boot fields = Boot (field_number_at fields 1) (field_number_at fields 2) (version_of_boot fields)
trace_row_of kind.Raw fields = Raw (field_number_at fields 1) (bytes_of (field fields 2))
trace_row_of kind.Put fields = Put (field_number_at fields 1) (bytes_of (field fields 2))
trace_row_of kind.End fields = End (field_number_at fields 1)
