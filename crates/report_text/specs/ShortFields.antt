-- A table of the fields of small numbers.
use Rattle.std.specs.Prelude.{◌<◌, ◌≤◌, ℕ, List, slice_index_or}
use Rattle.report_text.specs.Fields.{IsField}
use Rattle.report_text.specs.declared.short_field.ShortField.{ShortField}

-- the field of a number, at the front of four bytes
abbrev pub IsShortField : ℕ → ShortField → Type 0
IsShortField number field = (field.end ≤ 4) × IsField number field.bytes field.end

-- so many numbers have their field at their place
abbrev pub HasShortFields : ℕ → List ShortField → Type 0
HasShortFields count fields = (n : ℕ) (d : ShortField) → n < count → IsShortField n (slice_index_or fields n d)

abbrev pub AreShortFields : List ShortField → Type 0
AreShortFields fields = HasShortFields 1000 fields
