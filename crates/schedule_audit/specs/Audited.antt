-- What an audit answers, and what a text that it passes shows (this project's own profile).
use Rattle.std.specs.Prelude.{◌≡◌, ◌<◌, ◌≤◌, ℕ, List, length, Option, Some, None, Result, Ok, Err}
use Rattle.clos_topology.specs.Network.{Network, endpoints_of}
use Rattle.report_text.specs.declared.line.Line.{Line}
use Rattle.greedy_rules.specs.Schedule.{schedule, slot_at, need_before}
use Rattle.greedy_rules.specs.Recorded.{AreRecorded, IsRecordedSlot}
use Rattle.schedule_audit.specs.declared.auditor.AuditRefused.{AuditRefused}
use Rattle.schedule_audit.specs.declared.auditor.AuditRefused.TheVariants.{Bad, Memory}
use Rattle.schedule_audit.specs.Lines.{records, rounds_in_lines}
use Rattle.schedule_audit.specs.Wrong.{batches_of_records}
use Rattle.schedule_audit.specs.BadLines.{first_bad_line}
use Rattle.schedule_audit.specs.Shown.{ShowsItsSchedule}

-- the number of lines where none is bad, and else the first bad one; memory may be wanting at any time
abbrev pub IsVerdict : Network → ℕ → List (Option Line) → Result ℕ AuditRefused → Type 0
IsVerdict net b lines (Ok count) = (first_bad_line net b lines ≡ None) × (count ≡ length lines)
IsVerdict net b lines (Err (Bad line)) = first_bad_line net b lines ≡ Some line
IsVerdict net b lines (Err Memory) = Unit {0}

-- the `batch` lines are recorded batches, the `slot` lines their schedule, and each slot a matching that no waiting demand could
-- join, within the limits of the racks, on paths that share no link
pub record ShowsACleanSchedule (net : Network) (b : ℕ) (lines : List (Option Line)) : Type 0 where
  pub recorded : AreRecorded (endpoints_of net) (record { hosts = net.hosts; cores = net.cores }) (batches_of_records net (rounds_in_lines lines) (records lines))
  pub shown : ShowsItsSchedule net b lines
  pub slots : (number : ℕ) → 0 < number → number ≤ length (schedule b (batches_of_records net (rounds_in_lines lines) (records lines)))
      → IsRecordedSlot (endpoints_of net) (record { hosts = net.hosts; cores = net.cores }) (need_before b (batches_of_records net (rounds_in_lines lines) (records lines)) number) (slot_at (schedule b (batches_of_records net (rounds_in_lines lines) (records lines))) number)
