-- The fields of a row of a trace: numbers, ways and hexadecimal bytes, by this project's own profile.
use Rattle.std.specs.Prelude.{ℕ, ◌%◌, List, [], length, take, Result, Ok, Err, Bool, not, ◌&&◌, ◌||◌, ◌==◌, nat_lt, nat_le, slice_index, slice_index_or, codes}
use Rattle.std.specs.List.{list_all}
use Rattle.std.specs.Char.{is_ascii_digit}
use Rattle.std.specs.Str.{bytes_eq}
use Rattle.std.specs.Str.Parse.{digits_value}
use Rattle.hex.specs.Hex.{decode_of, is_hex_digit}

-- the bytes of a field, and the fields of a row with the one that names its kind
abbrev pub Field : Type 0
Field = List ℕ

abbrev pub Record : Type 0
Record = List Field

-- the first six fields: they tell what a row is as all do, since no row has six
abbrev pub cut : Record → Record
cut fields = take 6 fields

-- the field at a place, with no bytes where the row is shorter
abbrev pub field : Record → ℕ → Field
field fields at = slice_index_or fields at []

-- one to ten bytes, of which the first of several is not "0"
abbrev pub has_shape : Field → Bool
has_shape text = nat_lt 0 (length text) && nat_le (length text) 10 && not (nat_lt 1 (length text) && (slice_index text 0 == 48))

-- one to ten ASCII digits, without a leading zero unless it is "0", that write at most the greatest u32
unfoldable pub is_number : Field → Bool
is_number text = has_shape text && list_all is_ascii_digit text && nat_le (digits_value 10 text) 4294967295

-- the number that a field writes
unfoldable pub number_of : Field → ℕ
number_of text = digits_value 10 text

-- the same of the field at a place
abbrev pub field_number_at : Record → ℕ → ℕ
field_number_at fields at = number_of (field fields at)

abbrev pub has_number : Record → ℕ → Bool
has_number fields at = is_number (field fields at)

-- the ways of a packet: up to the arbiter, and down to the endpoint
abbrev pub is_up : Field → Bool
is_up text = bytes_eq text (codes "up")

abbrev pub is_way : Field → Bool
is_way text = is_up text || bytes_eq text (codes "down")

-- hexadecimal digits of whole bytes, in either case; no digit stands for no bytes
unfoldable pub is_hex : Field → Bool
is_hex text = list_all is_hex_digit text && (length text % 2 == 0)

-- the bytes that they write
abbrev pub bytes_or_none : {E : Type 0} → Result (List ℕ) E → List ℕ
bytes_or_none (Ok bytes) = bytes
bytes_or_none (Err e) = []

abbrev pub bytes_of : Field → List ℕ
bytes_of text = bytes_or_none (decode_of text)
