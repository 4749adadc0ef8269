-- Lines whose endpoints fit 16 bits (this project's own profile).
use Rattle.std.specs.Prelude.{◌≤◌, List, [], ◌∷◌, Option, Some}
use Rattle.report_text.specs.declared.line.Line.{Line}
use Rattle.report_text.specs.declared.line.Line.TheVariants as line

-- of each `sent` line the source does
abbrev pub IsSmall : Option Line → Type 0
IsSmall (Some (line.Sent slot src dst)) = src ≤ 65535
IsSmall _ = Unit {0}

abbrev pub AreSmall : List (Option Line) → Type 0
AreSmall [] = Unit {0}
AreSmall (l ∷ lines) = IsSmall l × AreSmall lines
