-- Groups of lines whose kinds are spelled by one private function each (this project's own profile).
use Rattle.std.specs.Prelude.{⊤}
use Rattle.report_text.specs.declared.line.Line.{Line}
use Rattle.report_text.specs.declared.line.Line.TheVariants as line

-- what is recorded of a flow, and what became of it in a plan
abbrev pub IsPlanLine : Line → Type 0
IsPlanLine (line.Batch batch src dst clear add) = ⊤
IsPlanLine (line.Flow src dst demanded allocated pending) = ⊤
IsPlanLine _ = ⊥

abbrev pub IsCount : Line → Type 0
IsCount (line.Count src dst demanded acknowledged flight pending lost sent missed) = ⊤
IsCount _ = ⊥

abbrev pub IsMade : Line → Type 0
IsMade (line.Made number flows demanded acknowledged flight pending lost sent missed) = ⊤
IsMade _ = ⊥

-- a line that only a takeover writes
abbrev pub IsTakeoverLine : Line → Type 0
IsTakeoverLine (line.Granted message node generation first) = ⊤
IsTakeoverLine (line.Published node batch) = ⊤
IsTakeoverLine (line.Declined row place) = ⊤
IsTakeoverLine (line.Total src dst asked sent) = ⊤
IsTakeoverLine _ = ⊥
