-- What is told.
use Rattle.trace_run.proofs.Recorded.{apart-all}
use Rattle.trace_run.proofs.ToldRules.{what_is_told_is_of_a_batch}
use Rattle.trace_run.proofs.laws.what_is_told_keeps_the_rules.Goals as goal

pub returns : goal.returns
returns c =
    let s = c.schedules_hold.ensures in
    let run = c.every_run_is_applicable.ensures in
    what_is_told_is_of_a_batch s run.slots
    (λ setting rounds all within trace. apart-all s c.ends_hold.ensures run.batches c.what_is_told_is_allocated.ensures.told setting rounds all within trace)
