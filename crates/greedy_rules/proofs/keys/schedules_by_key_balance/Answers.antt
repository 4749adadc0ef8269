use Rattle.greedy_rules.proofs.NeedLemmas.{every_batch_by}
use Rattle.greedy_rules.proofs.BalanceLemmas.{every_rest_by, every_schedule_by}
use Rattle.greedy_rules.proofs.keys.schedules_by_key_balance.Goals as goal

pub returns-clause-batch : goal.returns-clause-batch
returns-clause-batch c = every_batch_by

pub returns-clause-listed : goal.returns-clause-listed
returns-clause-listed c = every_rest_by

pub returns-clause-balance : goal.returns-clause-balance
returns-clause-balance c = every_schedule_by
