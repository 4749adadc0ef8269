use Rattle.greedy_rules.proofs.NeedLemmas.{every_batch}
use Rattle.greedy_rules.proofs.laws.every_batch_balances.Goals as goal

pub returns : goal.returns
returns c = every_batch
