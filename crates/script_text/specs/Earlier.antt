-- What the rows of a script up to some row say together. This project's own profile.
use Rattle.std.specs.Prelude.{ℕ, ◌==◌, ◌&&◌, List, [], ◌∷◌, Bool, true, false, sum_by, if◌then◌else◌}
use Rattle.std.specs.List.{list_any, filter_map}
use Rattle.takeover_history.specs.declared.event.Event.{Event}
use Rattle.takeover_history.specs.Events.{PairSetting}
use Rattle.script_text.specs.Rows.{event_of}
use Rattle.script_text.specs.declared.row.Row.{Row}
use Rattle.script_text.specs.declared.row.Row.TheVariants as row

-- the pair that a row tells
abbrev pub pair_in : Row → PairSetting
pair_in (row.Pair endpoints b span) = record { endpoints = endpoints; b = b; span = span }
pair_in other = record { endpoints = 0; b = 0; span = 0 }

-- the pair of the first row
abbrev pub pair_of : List Row → PairSetting
pair_of [] = record { endpoints = 0; b = 0; span = 0 }
pair_of (first ∷ rows) = pair_in first

abbrev pub is_end : Row → Bool
is_end row.End = true
is_end other = false

-- a row has ended the script
abbrev pub is_ended : List Row → Bool
is_ended rows = list_any is_end rows

-- the events, in order
abbrev pub events_in_rows : List Row → List Event
events_in_rows rows = filter_map event_of rows

-- the slots that a row asks for, where it is an ask of this flow
abbrev pub script_row_slots : ℕ → ℕ → Row → ℕ
script_row_slots src dst (row.Ask s d slots) = if (s == src) && (d == dst) then slots else 0
script_row_slots src dst other = 0

abbrev pub total_in_rows : ℕ → ℕ → List Row → ℕ
total_in_rows src dst rows = sum_by (script_row_slots src dst) rows
