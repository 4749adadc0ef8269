-- Window by window.
use Rattle.trace_run.proofs.Windows.{every_batch_is_next, every_window_is_allocated}
use Rattle.trace_run.proofs.laws.windows_make_the_schedule.Goals as goal

pub returns : goal.returns
returns c = record { next = every_batch_is_next c.schedules_hold.ensures; window = every_window_is_allocated c.schedules_hold.ensures }
