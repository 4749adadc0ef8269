-- What requests name.
use Rattle.endpoint_history.proofs.Requests.{requests_name_totals}
use Rattle.endpoint_history.proofs.Carried.{confirmed_by_greatest, carried_is_what_is_shown}
use Rattle.endpoint_history.proofs.laws.requests_name_unconfirmed_totals.Goals as goal

pub returns : goal.returns
returns c = record { named = requests_name_totals; confirmed = confirmed_by_greatest; carried = carried_is_what_is_shown }
