-- The worked runs, computed.
use Rattle.std.specs.Prelude.{refl}
use Rattle.trace_run.specs.Examples.{entries_shown, slot_lines, sent_lines, count_shown, WorkedRuns}

pub worked_runs : WorkedRuns
unfolding entries_shown slot_lines sent_lines count_shown
worked_runs = record {
  one = record { records = refl; allocates = refl; sends = refl; ends = refl };
  lost = record { records = refl; allocates = refl; sends = refl; ends = refl };
  missed = record { records = refl; allocates = refl; sends = refl; ends = refl };
  strays = record { records = refl; allocates = refl; sends = refl; ends = refl };
  forged = record { records = refl; allocates = refl; sends = refl; ends = refl };
  windows = record { records = refl; allocates = refl; sends = refl; ends = refl };
  racks = record { records = refl; allocates = refl; sends = refl; ends = refl };
}
