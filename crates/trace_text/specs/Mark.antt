-- The byte order mark that a text may begin with, where the text is given piece by piece.
use Rattle.std.specs.Prelude.{ℕ, List, Bool, true, false}
use Rattle.csv.specs.Reading.{strip_bom}
use Rattle.trace_text.specs.Fields.{Record}
use Rattle.trace_text.specs.Lines.{records_in}

-- what is left of a text behind its mark, where it is the start of one
abbrev pub left_behind_mark : Bool → List ℕ → List ℕ
left_behind_mark true left = strip_bom left
left_behind_mark false left = left

-- the records of what is left of a text
abbrev pub records_of_left : Bool → List ℕ → List Record
records_of_left is_start left = records_in (left_behind_mark is_start left)
