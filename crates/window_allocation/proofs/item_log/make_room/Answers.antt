use Rattle.std.proofs.Common.{ap, ◌∙◌}
use Rattle.window_allocation.specs.Logged.{standing}
use Rattle.window_allocation.proofs.LogWeaving.{standing_once}
use Rattle.window_allocation.proofs.item_log.make_room.Goals as goal

pub returns-then-are_many-clause-items : goal.returns-then-are_many-clause-items
returns-then-are_many-clause-items c = ap standing c.close_gaps.ensures.items ∙ standing_once c.args.items.now.items
