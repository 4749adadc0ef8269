use Rattle.std.proofs.Common.{ap, ◌∙◌}
use Rattle.std.proofs.lemmas.List.{get_or_default}
use Rattle.greedy_rules.specs.declared.flows.Item.{Item}
use Rattle.window_allocation.proofs.reach.note_picked_if.Goals as goal

abbrev nothing : Item
nothing = record { flow = record { src = 0; dst = 0 }; need = 0; last = 0 }

pub returns-then-here-clause-noted : goal.returns-then-here-clause-noted
returns-then-here-clause-noted c = λ is none all ahead show was goes.
    c.note_picked.ensures.ahead all ahead show was (ap (λ (item : Item). ahead item.flow) (get_or_default c.args.list.now c.args.at nothing none (c.requires.within is)) ∙ goes)
