-- Rounds are read in order.
use Rattle.endpoint_history.proofs.Reading.{spelled_alike, rounds_are_read_in_order}
use Rattle.endpoint_history.proofs.laws.rounds_are_read_in_order.Goals as goal

pub returns : goal.returns
returns c = record {
  alike = spelled_alike;
  next = rounds_are_read_in_order c.arrivals_are_given_in_order.ensures.one_by_one;
}
