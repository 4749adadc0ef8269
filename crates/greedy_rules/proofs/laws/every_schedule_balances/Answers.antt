use Rattle.greedy_rules.proofs.BalanceLemmas.{every_rest, every_schedule}
use Rattle.greedy_rules.proofs.laws.every_schedule_balances.Goals as goal

pub returns-clause-listed : goal.returns-clause-listed
returns-clause-listed c = every_rest

pub returns-clause-balance : goal.returns-clause-balance
returns-clause-balance c = every_schedule
