use Rattle.loss_world.proofs.Histories.{given_in_order, all_are_given, each_ask_takes_one}
use Rattle.loss_world.proofs.laws.arrivals_are_given_in_order.Goals as goal

pub returns : goal.returns
returns c = record {
  in_order = given_in_order;
  all = all_are_given;
  one_by_one = each_ask_takes_one;
}
