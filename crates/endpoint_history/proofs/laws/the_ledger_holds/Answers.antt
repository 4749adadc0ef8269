-- The ledger.
use Rattle.endpoint_history.proofs.Ledger.{ledger_is_within, adds_sum_to_owed}
use Rattle.endpoint_history.proofs.OneRest.{entries_sum_to_owed}
use Rattle.endpoint_history.proofs.laws.the_ledger_holds.Goals as goal

pub returns : goal.returns
returns c = record {
  within = ledger_is_within c.windows_hold.ensures;
  adds = adds_sum_to_owed c.windows_hold.ensures;
  entries = entries_sum_to_owed c.windows_hold.ensures;
}
