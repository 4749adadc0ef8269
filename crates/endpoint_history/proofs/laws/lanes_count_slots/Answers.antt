-- A lane alone.
use Rattle.endpoint_history.proofs.CallCounts.{making_tells, reading_decides, resets_count_anew}
use Rattle.endpoint_history.proofs.Ledger.{counts_add_up}
use Rattle.endpoint_history.proofs.laws.lanes_count_slots.Goals as goal

pub returns : goal.returns
returns c = record {
  making = making_tells c.windows_hold.ensures;
  reading = reading_decides c.windows_hold.ensures;
  resets = resets_count_anew;
  sums = counts_add_up c.windows_hold.ensures;
}
