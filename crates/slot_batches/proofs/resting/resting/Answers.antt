use Rattle.std.proofs.Common.{ℕ, All, take, sym, subst}
use Rattle.slot_batches.specs.Rests.{ItemRests}
use Rattle.slot_batches.proofs.resting.resting.Goals as goal

pub returns-then-doubts_suffice-clause-rest : goal.returns-then-doubts_suffice-clause-rest
returns-then-doubts_suffice-clause-rest c = λ marked.
    subst (λ (n : ℕ). All (ItemRests c.args.batch.now.entries n c.args.filling.now.maps) (take c.undoubted.result c.args.items.now)) (sym (c.doubts_suffice.ensures c.if-doubts_suffice.true))
    (c.undoubted.ensures.rest c.args.batch.now.entries marked)

pub returns-clause-rest : goal.returns-clause-rest
returns-clause-rest c = c.resting_each.ensures.rest c.args.batch.now.entries
