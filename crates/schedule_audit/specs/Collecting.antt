-- What the lines of a text say, kind by kind (this project's own profile).
use Rattle.std.specs.Prelude.{◌≡◌, ℕ, ◌+◌, List, [], ◌∷◌, ◌++◌, length, Option, Some, None, unwrap_or}
use Rattle.std.specs.List.{cons_option}
use Rattle.report_text.specs.declared.line.Line.{Line}
use Rattle.schedule_audit.specs.declared.collected.Collected.{Collected}
use Rattle.schedule_audit.specs.Lines.{recorded_by, records, path_of, sent_by_line, rounds_by, ends, first_or_0, rounds_in_lines}
use Rattle.schedule_audit.specs.Totals.{total_in_line}
use Rattle.schedule_audit.specs.Numbered.{numbered_lines}

-- one number if there is none yet
abbrev pub first_number : Option ℕ → Option ℕ → Option ℕ
first_number None next = next
first_number (Some n) next = Some n

-- what one line more adds
pub record AddsLine (line : Option Line) (old new : Collected) : Type 0 where
  pub records : new.records.items ≡ old.records.items ++ cons_option (recorded_by line) []
  pub paths : new.paths.items ≡ old.paths.items ++ numbered_lines path_of new.lines (line ∷ [])
  pub sends : new.sends.items ≡ old.sends.items ++ numbered_lines sent_by_line new.lines (line ∷ [])
  pub totals : new.totals.items ≡ old.totals.items ++ numbered_lines total_in_line new.lines (line ∷ [])
  pub rounds : new.rounds ≡ first_number old.rounds (rounds_by line)
  pub lines : new.lines ≡ old.lines + 1

-- where these lines are still to come
pub record CollectsUpTo (whole after : List (Option Line)) (collected : Collected) : Type 0 where
  pub records : records whole ≡ collected.records.items ++ records after
  pub paths : numbered_lines path_of 1 whole ≡ collected.paths.items ++ numbered_lines path_of (collected.lines + 1) after
  pub sends : numbered_lines sent_by_line 1 whole ≡ collected.sends.items ++ numbered_lines sent_by_line (collected.lines + 1) after
  pub totals : numbered_lines total_in_line 1 whole ≡ collected.totals.items ++ numbered_lines total_in_line (collected.lines + 1) after
  pub rounds : rounds_in_lines whole ≡ first_or_0 (cons_option collected.rounds (ends after))
  pub count : length whole ≡ collected.lines + length after

-- the lines of a whole text
pub record Collects (whole : List (Option Line)) (collected : Collected) : Type 0 where
  pub records : collected.records.items ≡ records whole
  pub paths : collected.paths.items ≡ numbered_lines path_of 1 whole
  pub sends : collected.sends.items ≡ numbered_lines sent_by_line 1 whole
  pub totals : collected.totals.items ≡ numbered_lines total_in_line 1 whole
  pub rounds : unwrap_or collected.rounds 0 ≡ rounds_in_lines whole
  pub count : collected.lines ≡ length whole
