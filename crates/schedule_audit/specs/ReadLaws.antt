-- A written text is read as the lines that it was written from (this project's own profile).
use Rattle.std.specs.Prelude.{◌≡◌, Option, ℕ, List, [], ◌∷◌, ◌++◌}
use Rattle.std.specs.List.{flat_map}
use Rattle.report_text.specs.declared.line.Line.{Line}
use Rattle.report_text.specs.Lines.{line_bytes, IsLine}
use Rattle.schedule_audit.specs.Reading.{ReadsLines}
use Rattle.schedule_audit.specs.Laws.{read}

abbrev pub AreAllLines : List Line → Type 0
AreAllLines [] = Unit {0}
AreAllLines (l ∷ ls) = IsLine l × AreAllLines ls

-- each line with a line feed
abbrev pub text_with_line_feeds : List Line → List ℕ
text_with_line_feeds ls = flat_map (λ l. line_bytes l ++ 10 ∷ []) ls

abbrev pub EachTextIsRead : Type 0
EachTextIsRead = (ls : List Line) → AreAllLines ls → ReadsLines (text_with_line_feeds ls) (read ls)

-- no bytes are read as two lists of lines
abbrev pub EachTextHasOneReading : Type 0
EachTextHasOneReading = (bytes : List ℕ) (one other : List (Option Line)) → ReadsLines bytes one → ReadsLines bytes other → one ≡ other
