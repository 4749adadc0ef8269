-- Running counts.
use Rattle.takeover_history.proofs.Fits.{next_batch_may_be_applied, own_generations, few_of_all}
use Rattle.takeover_history.proofs.laws.running_counts_serve.Goals as goal

pub returns : goal.returns
returns c = record {
  next = next_batch_may_be_applied c.every_batch_balances.ensures;
  own = own_generations;
  few = few_of_all c.every_batch_balances.ensures;
}
