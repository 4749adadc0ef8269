use Rattle.fewest_order.proofs.BarLemmas.{flows_before_it_bar}
use Rattle.fewest_order.proofs.laws.flows_before_it_bar.Goals as goal

pub returns : goal.returns
returns g c = flows_before_it_bar c.every_slot_is_filled_in_order.ensures.slot c.every_slot_is_filled_in_order.ensures.batch g.O.Order.number
