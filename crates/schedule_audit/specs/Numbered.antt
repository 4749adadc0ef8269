-- What the lines of one kind say, each with the number of its line (this project's own profile).
use Rattle.std.specs.Prelude.{ℕ, ◌+◌, List, [], ◌∷◌, Option, option_map}
use Rattle.std.specs.List.{cons_option}
use Rattle.report_text.specs.declared.line.Line.{Line}
pub use Rattle.schedule_audit.specs.declared.packets.Numbered.{Numbered}

abbrev pub at_line : {X : Type 0} → ℕ → X → Numbered X
at_line number said = record { line = number; said = said }

-- from the line of this number on
abbrev pub numbered_lines : {X : Type 0} → (Option Line → Option X) → ℕ → List (Option Line) → List (Numbered X)
numbered_lines says number [] = []
numbered_lines says number (l ∷ lines) = cons_option (option_map (at_line number) (says l)) (numbered_lines says (number + 1) lines)
