-- A text that no audit refuses, however it is read (this project's own profile).
use Rattle.std.specs.Prelude.{◌≡◌, ◌⊎◌, ℕ, List, length, Option, None, Result, Ok, Err}
use Rattle.clos_topology.specs.Network.{Network}
use Rattle.report_text.specs.declared.line.Line.{Line}
use Rattle.schedule_audit.specs.declared.auditor.AuditRefused.{AuditRefused}
use Rattle.schedule_audit.specs.declared.auditor.AuditRefused.TheVariants.{Memory}
use Rattle.schedule_audit.specs.Reading.{ReadsLines}
use Rattle.schedule_audit.specs.Laws.{read}
use Rattle.schedule_audit.specs.BadLines.{first_bad_line}
use Rattle.schedule_audit.specs.Audited.{IsVerdict}

-- the bytes are read as these lines, and as no others; none of them is bad; and every verdict on them is their number, or that memory
-- is wanting
pub record HasNoBadLine (net : Network) (b : ℕ) (bytes : List ℕ) (body : List Line) : Type 0 where
  pub reads : ReadsLines bytes (read body)
  pub only : (lines : List (Option Line)) → ReadsLines bytes lines → lines ≡ read body
  pub none : first_bad_line net b (read body) ≡ None
  pub passes : (lines : List (Option Line)) (verdict : Result ℕ AuditRefused) → ReadsLines bytes lines → IsVerdict net b lines verdict
      → (verdict ≡ Ok (length body)) ⊎ (verdict ≡ Err Memory)
