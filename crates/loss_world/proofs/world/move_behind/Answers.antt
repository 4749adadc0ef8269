use Rattle.std.proofs.Common.{rules, [], ◌∷◌, ◌++◌, ◌-◌, take, ◌∙◌, ap}
use Rattle.loss_world.proofs.Flights.{moved_behind}
use Rattle.loss_world.proofs.world.move_behind.Goals as goal

pub returns-then-at-under_way-clause-others : goal.returns-then-at-under_way-clause-others
returns-then-at-under_way-clause-others c =
    ap (take (c.args.under_way - 1)) (c.push_reserved.ensures.items ∙ ap (λ flights. flights ++ c.remove-gone.result ∷ []) c.remove-gone.ensures.items)
    ∙ moved_behind c.args.flights.now.items c.args.under_way c.args.at c.remove-gone.result c.requires.within (search rules)
