use Rattle.fewest_order.proofs.BarLemmas.{none_that_needs_more_bars}
use Rattle.fewest_order.proofs.laws.none_that_needs_more_bars.Goals as goal

pub returns : goal.returns
returns c = none_that_needs_more_bars c.flows_before_it_bar.ensures
