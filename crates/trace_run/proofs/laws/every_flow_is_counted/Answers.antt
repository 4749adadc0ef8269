-- The counts.
use Rattle.trace_run.proofs.Counts.{every_flow_is_counted}
use Rattle.trace_run.proofs.laws.every_flow_is_counted.Goals as goal

pub returns : goal.returns
returns c = every_flow_is_counted c.schedules_hold.ensures c.ends_hold.ensures c.ledger_and_rest_agree.ensures.owed
