use Rattle.std.proofs.Common.{◌∷◌, [], ◌++◌, List, sym, subst}
use Rattle.greedy_rules.specs.declared.flows.Item.{Item}
use Rattle.slot_batches.specs.Filled.{HasTakenUp}
use Rattle.slot_batches.specs.Parts.{fill_of}
use Rattle.slot_batches.proofs.TakeUpLemmas.{waiting_has_room}
use Rattle.slot_batches.proofs.RestLemmas.{keep_one}
use Rattle.slot_batches.proofs.filling.Filling.take_up.Goals as goal

pub push_reserved-requires : goal.push_reserved-requires
push_reserved-requires c = waiting_has_room c.requires.may.0 c.args.self.now c.args.item c.requires.room c.requires.may.1 c.requires.may.2

pub returns-then-must_wait-clause-taken_up : goal.returns-then-must_wait-clause-taken_up
returns-then-must_wait-clause-taken_up c = λ taken is may.
    let item = c.args.item in
    let old = fill_of c.args.self.now in
    subst (λ (xs : List Item). HasTakenUp (taken ++ item ∷ []) (record old { waiting = xs })) (sym c.push_reserved.ensures.items)
    (keep_one taken old item is may (c.must_wait.ensures c.if-must_wait.true))
