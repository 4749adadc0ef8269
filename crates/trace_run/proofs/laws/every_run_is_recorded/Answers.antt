-- Recorded batches.
use Rattle.trace_run.proofs.Recorded.{every_run_is_recorded}
use Rattle.trace_run.proofs.laws.every_run_is_recorded.Goals as goal

pub returns : goal.returns
returns c =
    let told = c.what_is_told_is_allocated.ensures in
    let may = c.recorded_batches_may_be_applied.ensures in
    every_run_is_recorded c.schedules_hold.ensures c.ends_hold.ensures c.every_run_is_applicable.ensures.batches c.ledger_and_rest_agree.ensures.owed told.told told.fits may.all may.later
