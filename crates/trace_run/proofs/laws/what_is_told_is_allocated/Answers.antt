-- What is told.
use Rattle.trace_run.specs.Counts.{ToldIsAllocated}
use Rattle.trace_run.proofs.Counts.{told_is_allocated, telling_has_room, told_fits_slots}
use Rattle.trace_run.proofs.laws.what_is_told_is_allocated.Goals as goal

pub returns : goal.returns
returns c =
    let told_is : ToldIsAllocated = told_is_allocated c.schedules_hold.ensures c.ends_hold.ensures in
    record { told = told_is; room = telling_has_room c.ends_hold.ensures told_is; fits = told_fits_slots c.schedules_hold.ensures told_is }
