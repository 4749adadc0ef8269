-- The ledger and the demand list.
use Rattle.endpoint_history.proofs.OneRest.{one_rest, counts_begin_at_the_last_clear}
use Rattle.endpoint_history.proofs.laws.ledger_and_demand_list_agree.Goals as goal

pub returns : goal.returns
returns c = record { rest = one_rest c.windows_hold.ensures; begins = counts_begin_at_the_last_clear }
