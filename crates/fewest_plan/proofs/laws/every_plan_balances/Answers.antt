use Rattle.fewest_plan.proofs.LedgerLemmas.{plan_balances}
use Rattle.fewest_plan.proofs.laws.every_plan_balances.Goals as goal

pub returns : goal.returns
returns c = λ key. plan_balances key (c.schedules_by_key_balance.ensures.balance key) (c.recorded_batches_by_key.ensures.all key) c.every_plan_is_recorded.ensures c.every_plan_adds_what_is_asked.ensures
