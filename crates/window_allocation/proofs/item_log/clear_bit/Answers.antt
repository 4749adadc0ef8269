use Rattle.std.proofs.Common.{◌==◌, ◌∙◌, ◌&&◌, Bool, not, ap}
use Rattle.std.proofs.lemmas.Bool.{ne_eqb}
use Rattle.list_facts.proofs.Bits.{place_is_cleared}
use Rattle.window_allocation.proofs.item_log.clear_bit.Goals as goal

pub returns-clause-others : goal.returns-clause-others
returns-clause-others c = λ other apart was.
    place_is_cleared c.args.words.now c.args.at c.requires other ∙ (ap (λ (b : Bool). b && not (other == c.args.at)) was ∙ ap not (ne_eqb other c.args.at apart))
