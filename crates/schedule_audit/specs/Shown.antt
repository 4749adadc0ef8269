-- What a text without a bad line shows: its `slot` lines are the schedule of its `batch` lines, on clean paths (this project's own profile).
use Rattle.std.specs.Prelude.{◌≡◌, ◌<◌, ◌≤◌, length, ℕ, false, List, All, AllPairs, Option, None}
use Rattle.clos_topology.specs.Network.{Network, endpoints_of}
use Rattle.report_text.specs.declared.line.Line.{Line}
use Rattle.greedy_rules.specs.Schedule.{schedule, slot_at, need_before}
use Rattle.greedy_rules.specs.Recorded.{AreRecorded, IsRecordedSlot}
use Rattle.schedule_audit.specs.Lines.{Path, paths, places, records, rounds_in_lines}
use Rattle.schedule_audit.specs.Wrong.{batches_of_records, slot_places_from, has_wrong_core, share_a_link}
use Rattle.schedule_audit.specs.BadLines.{first_misplaced, first_bad_line}

pub record ShowsItsSchedule (net : Network) (b : ℕ) (lines : List (Option Line)) : Type 0 where
  pub scheduled : places lines ≡ slot_places_from 1 (schedule b (batches_of_records net (rounds_in_lines lines) (records lines)))
  pub cores : All (λ (p : Path). has_wrong_core net p.place.flow p.core ≡ false) (paths lines)
  pub apart : AllPairs (λ (p q : Path). share_a_link net q p ≡ false) (paths lines)

abbrev pub NoBadLineIsItsSchedule : Type 0
NoBadLineIsItsSchedule = (net : Network) (b : ℕ) (lines : List (Option Line)) → first_bad_line net b lines ≡ None → ShowsItsSchedule net b lines

-- where none is misplaced, the batches that the lines give are recorded batches of the network's endpoints and limits
abbrev pub NoMisplacedLineIsRecorded : Type 0
NoMisplacedLineIsRecorded =
    (net : Network) (lines : List (Option Line)) → first_misplaced (endpoints_of net) lines ≡ None
    → AreRecorded (endpoints_of net) (record { hosts = net.hosts; cores = net.cores }) (batches_of_records net (rounds_in_lines lines) (records lines))

-- so each slot of their schedule is a matching that no waiting demand could join, and keeps the limits of the racks
abbrev pub NoMisplacedLineMakesMatchings : Type 0
NoMisplacedLineMakesMatchings =
    (net : Network) (b : ℕ) (lines : List (Option Line)) → first_misplaced (endpoints_of net) lines ≡ None
    → (number : ℕ) → 0 < number → number ≤ length (schedule b (batches_of_records net (rounds_in_lines lines) (records lines)))
    → IsRecordedSlot (endpoints_of net) (record { hosts = net.hosts; cores = net.cores }) (need_before b (batches_of_records net (rounds_in_lines lines) (records lines)) number) (slot_at (schedule b (batches_of_records net (rounds_in_lines lines) (records lines))) number)
