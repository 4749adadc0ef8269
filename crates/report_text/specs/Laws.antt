-- No two lines share a spelling (this project's own profile).
use Rattle.std.specs.Prelude.{◌≡◌}
use Rattle.report_text.specs.declared.line.Line.{Line}
use Rattle.report_text.specs.Lines.{line_bytes, IsLine}

abbrev pub EachLineHasItsOwnSpelling : Type 0
EachLineHasItsOwnSpelling = (one other : Line) → IsLine one → IsLine other → line_bytes one ≡ line_bytes other → one ≡ other
