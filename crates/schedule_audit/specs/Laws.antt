-- When a text has no bad line (this project's own profile).
use Rattle.std.specs.Prelude.{◌≡◌, ℕ, false, List, [], ◌∷◌, ◌++◌, map, length, Option, Some, None}
use Rattle.greedy_rules.specs.Cells.{flow_of}
use Rattle.clos_topology.specs.Network.{Network, endpoints_of}
use Rattle.report_text.specs.declared.line.Line.{Line}
use Rattle.report_text.specs.declared.line.Line.TheVariants as line
use Rattle.schedule_audit.specs.Lines as Lines
use Rattle.schedule_audit.specs.Lines.{Recorded, Place, Path}
use Rattle.schedule_audit.specs.Misplaced.{is_bad_record, is_bad_end}
use Rattle.schedule_audit.specs.Wrong.{Expected, expected_of_batches, batches_of_records, is_bad_path, is_bad_send, is_bad_flow, is_bad_count}
use Rattle.schedule_audit.specs.BadLines.{first_bad_line}

-- lines as they are read, and with an `end` line after them
abbrev pub read : List Line → List (Option Line)
read body = map (λ l. Some l) body

abbrev pub ended_lines : List Line → ℕ → List (Option Line)
ended_lines body rounds = read body ++ Some (line.End rounds) ∷ []

-- a line of a run before its `end` line
abbrev pub IsInner : Line → Type 0
IsInner (line.Batch batch src dst clear add) = Unit {0}
IsInner (line.Slot slot src dst core) = Unit {0}
IsInner (line.Sent slot src dst) = Unit {0}
IsInner (line.Refused round number) = Unit {0}
IsInner (line.Flow src dst demanded allocated pending) = Unit {0}
IsInner (line.Count src dst demanded acknowledged flight pending lost sent missed) = Unit {0}
IsInner _ = ⊥

abbrev pub AreInner : List Line → Type 0
AreInner [] = Unit {0}
AreInner (l ∷ body) = IsInner l × AreInner body

-- each of these is good after those before it
abbrev pub GoodRecords : ℕ → List Recorded → List Recorded → Type 0
GoodRecords endpoints before [] = Unit {0}
GoodRecords endpoints before (r ∷ later) = (is_bad_record endpoints before r ≡ false) × GoodRecords endpoints (r ∷ before) later

abbrev pub GoodPaths : Network → Expected → List Path → List Path → Type 0
GoodPaths net expected before [] = Unit {0}
GoodPaths net expected before (p ∷ later) = (is_bad_path net expected before p ≡ false) × GoodPaths net expected (p ∷ before) later

abbrev pub GoodSends : Expected → List Place → List Place → Type 0
GoodSends expected before [] = Unit {0}
GoodSends expected before (s ∷ later) = (is_bad_send expected before s ≡ false) × GoodSends expected (s ∷ before) later

abbrev pub IsGoodLine : ℕ → Expected → Line → Type 0
IsGoodLine b expected (line.Flow src dst demanded allocated pending) = is_bad_flow expected (flow_of src dst) demanded allocated pending ≡ false
IsGoodLine b expected (line.Count src dst demanded acknowledged flight pending lost sent missed) = is_bad_count b expected (flow_of src dst) demanded acknowledged flight pending lost ≡ false
IsGoodLine b expected _ = Unit {0}

abbrev pub AreGoodLines : ℕ → Expected → List Line → Type 0
AreGoodLines b expected [] = Unit {0}
AreGoodLines b expected (l ∷ body) = IsGoodLine b expected l × AreGoodLines b expected body

-- a text of these lines and an `end` line, held against the schedule of its `batch` lines
abbrev pub expected_of_text : Network → ℕ → List Line → ℕ → Expected
expected_of_text net b body rounds = expected_of_batches b (Lines.records (read body)) (batches_of_records net rounds (Lines.records (read body)))

pub record IsGoodText (net : Network) (b : ℕ) (body : List Line) (rounds : ℕ) : Type 0 where
  pub inner : AreInner body
  pub records : GoodRecords (endpoints_of net) [] (Lines.records (read body))
  pub last : is_bad_end (Lines.records (read body)) rounds ≡ false
  pub paths : GoodPaths net (expected_of_text net b body rounds) [] (Lines.paths (read body))
  pub count : length (Lines.paths (read body)) ≡ length (expected_of_text net b body rounds).places
  pub sends : GoodSends (expected_of_text net b body rounds) [] (Lines.sends_in_lines (read body))
  pub lines : AreGoodLines b (expected_of_text net b body rounds) body

abbrev pub AGoodTextHasNoBadLine : Type 0
AGoodTextHasNoBadLine = (net : Network) (b : ℕ) (body : List Line) (rounds : ℕ) → IsGoodText net b body rounds → first_bad_line net b (ended_lines body rounds) ≡ None
