use Rattle.std.proofs.Common.{◌==◌, ◌∙◌, ◌||◌, Bool, refl, ap}
use Rattle.std.proofs.lemmas.Bool.{or_right, eq-eqb}
use Rattle.list_facts.specs.Bits.{names_place}
use Rattle.list_facts.proofs.Bits.{place_is_set}
use Rattle.window_allocation.proofs.item_log.set_bit.Goals as goal

pub returns-clause-set : goal.returns-clause-set
returns-clause-set c = place_is_set c.args.words.now c.args.at c.requires c.args.at ∙ or_right (names_place c.args.words.now c.args.at) (c.args.at == c.args.at) (eq-eqb c.args.at c.args.at refl)

pub returns-clause-others : goal.returns-clause-others
returns-clause-others c = λ other was. place_is_set c.args.words.now c.args.at c.requires other ∙ ap (λ (b : Bool). b || other == c.args.at) was
