-- Equal texts.
use Rattle.own_texts.proofs.SameCores.{equal_plans, equal_replays}
use Rattle.own_texts.proofs.laws.equal_texts_have_the_same_cores.Goals as goal

pub returns : goal.returns
returns c = record {
  plans = equal_plans c.slots_hold.ensures.schedules.count c.every_plan_is_recorded.ensures c.every_plan_balances.ensures c.every_plan_adds_what_is_asked.ensures c.no_plan_has_a_bad_line.ensures;
  replays = equal_replays c.slots_hold.ensures c.ends_hold.ensures c.runs_hold.ensures c.no_replay_has_a_bad_line.ensures;
}
