-- The rounds are calls.
use Rattle.endpoint_history.proofs.Rounds.{rounds_arrive_from_other, rounds_are_in_order, rounds_go_on}
use Rattle.endpoint_history.proofs.laws.rounds_are_calls.Goals as goal

pub returns : goal.returns
returns c = record {
  arrive = rounds_arrive_from_other;
  order = rounds_are_in_order;
  go_on = rounds_go_on;
}
