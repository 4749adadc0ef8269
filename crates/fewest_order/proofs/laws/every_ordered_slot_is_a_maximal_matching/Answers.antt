use Rattle.greedy_rules.specs.Demands.{after_batch_by}
use Rattle.fewest_order.proofs.laws.every_ordered_slot_is_a_maximal_matching.Goals as goal

pub returns : goal.returns
returns g c = λ limits number count entries list. c.every_slot_of_a_batch_is_a_maximal_matching.ensures limits number count (after_batch_by g.O.Order.number entries list)
