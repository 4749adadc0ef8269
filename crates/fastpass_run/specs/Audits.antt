-- What the audit of a text comes to (this project's own profile).
use Rattle.std.specs.Prelude.{◌≡◌, ◌≤◌, ◌<◌, ℕ, List, [], ◌∷◌, ◌++◌, length, Option, Some, None, codes, decimal}
use Rattle.clos_topology.specs.Network.{Network}
use Rattle.report_text.specs.declared.line.Line.{Line}
use Rattle.schedule_audit.specs.Reading.{ReadsLines}
use Rattle.schedule_audit.specs.BadLines.{first_bad_line}
use Rattle.schedule_audit.specs.Audited.{ShowsACleanSchedule}
use Rattle.fastpass_run.specs.Outside.{Outside, Growth}
use Rattle.fastpass_run.specs.Rows.{IsReadAs}
use Rattle.fastpass_run.specs.Statuses.{IsStatusAmong}
use Rattle.fastpass_run.specs.Transfer.{input_limit}
use Rattle.fastpass_run.specs.Words.{asked_by_words}
use Rattle.fastpass_run.specs.Words.Asked.{audits}

-- how many lines a good text has
abbrev pub count_text : ℕ → List ℕ
count_text lines = (codes "ok," ++ decimal lines) ++ 10 ∷ []

-- The output grew by the number of the lines, none of which is bad.
pub record Audits (grew : Growth) (words : List (List ℕ)) (old new : Outside) : Type 0 where
  pub net : Network
  pub b : ℕ
  pub accepted : asked_by_words words ≡ Some (audits net b)
  pub lines : List (Option Line)
  pub read : IsReadAs (λ bytes. ReadsLines bytes lines) old new
  pub good : first_bad_line net b lines ≡ None
  pub written : grew old.sink.held new.sink.held (count_text (length lines))
  -- the `slot` lines are the schedule of the `batch` lines: each slot is a matching that no waiting demand could join, on paths that
  -- share no link
  pub shown : ShowsACleanSchedule net b lines

-- A line is bad, and the first such line is this one.
pub record HasBadLine (words : List (List ℕ)) (old new : Outside) (line : ℕ) : Type 0 where
  pub net : Network
  pub b : ℕ
  pub accepted : asked_by_words words ≡ Some (audits net b)
  pub lines : List (Option Line)
  pub read : IsReadAs (λ bytes. ReadsLines bytes lines) old new
  pub bad : first_bad_line net b lines ≡ Some line

-- the words ask for an audit of these bytes, and nothing else is in the source
pub record GivesText (words : List (List ℕ)) (old : Outside) (net : Network) (b : ℕ) (bytes : List ℕ) : Type 0 where
  pub accepted : asked_by_words words ≡ Some (audits net b)
  pub told : old.left ≡ Some bytes

-- When the audit of bytes that the source tells may end so.
pub record AuditEnds (words : List (List ℕ)) (old : Outside) (status : ℕ) : Type 0 where
  -- a text within the limit without a bad line: it is done, or a read or a write failed, or memory is wanting
  pub completes : (net : Network) (b : ℕ) (bytes : List ℕ) (lines : List (Option Line)) → GivesText words old net b bytes → length bytes ≤ input_limit → ReadsLines bytes lines
      → first_bad_line net b lines ≡ None → IsStatusAmong status (0 ∷ 3 ∷ 4 ∷ 5 ∷ [])
  -- one with a bad line: so says the status, or a read failed, or memory is wanting
  pub tells_bad : (net : Network) (b line : ℕ) (bytes : List ℕ) (lines : List (Option Line)) → GivesText words old net b bytes → length bytes ≤ input_limit → ReadsLines bytes lines
      → first_bad_line net b lines ≡ Some line → IsStatusAmong status (7 ∷ 3 ∷ 5 ∷ [])
  -- more bytes than the limit: the same
  pub tells_excess : (net : Network) (b : ℕ) (bytes : List ℕ) → GivesText words old net b bytes → input_limit < length bytes → IsStatusAmong status (6 ∷ 3 ∷ 5 ∷ [])
