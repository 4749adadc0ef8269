-- Shorter runs.
use Rattle.trace_run.proofs.Fronts.{run_length, a_run_begins_with_each, rounds_are_of_the_whole_run}
use Rattle.trace_run.proofs.laws.runs_go_on.Goals as goal

pub returns : goal.returns
returns c = record { batches = run_length; begins = a_run_begins_with_each; rounds = rounds_are_of_the_whole_run c.schedules_hold.ensures }
