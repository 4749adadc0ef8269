-- The first bad line of a text: the first that cannot stand where it stands, and if there is none, the first that is not what the
-- batches of the text come to. Lines are counted from 1 (this project's own profile).
use Rattle.std.specs.Prelude.{ℕ, ◌+◌, Bool, List, [], ◌∷◌, length, Option, Some, None, if◌then◌else◌}
use Rattle.clos_topology.specs.Network.{Network, endpoints_of}
use Rattle.report_text.specs.declared.line.Line.{Line}
use Rattle.schedule_audit.specs.Misplaced.{has_end, is_misplaced}
use Rattle.schedule_audit.specs.Wrong.{expected_of, is_wrong}

-- the first line that a test finds, which sees the lines before it, the latest first
abbrev pub first_from : (List (Option Line) → Option Line → Bool) → ℕ → List (Option Line) → List (Option Line) → Option ℕ
first_from bad number before [] = None
first_from bad number before (l ∷ later) = if bad before l then Some number else first_from bad (number + 1) (l ∷ before) later

-- a number if there is one, else the other
abbrev pub or_else : Option ℕ → Option ℕ → Option ℕ
or_else None other = other
or_else (Some number) other = Some number

-- the first misplaced line; where there is no `end` line, the one after the last is misplaced
abbrev pub after_last : List (Option Line) → Option ℕ
after_last lines = if has_end lines then None else Some (length lines + 1)

abbrev pub first_misplaced : ℕ → List (Option Line) → Option ℕ
first_misplaced endpoints lines = or_else (first_from (is_misplaced endpoints lines) 1 [] lines) (after_last lines)

abbrev pub first_wrong : Network → ℕ → List (Option Line) → Option ℕ
first_wrong net b lines = first_from (is_wrong net b (expected_of net b lines) lines) 1 [] lines

abbrev pub first_bad_line : Network → ℕ → List (Option Line) → Option ℕ
first_bad_line net b lines = or_else (first_misplaced (endpoints_of net) lines) (first_wrong net b lines)
