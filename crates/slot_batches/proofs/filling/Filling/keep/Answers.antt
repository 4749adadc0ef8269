use Rattle.std.proofs.Common.{◌++◌, List, sym, subst}
use Rattle.greedy_rules.specs.declared.flows.Item.{Item}
use Rattle.slot_batches.specs.Filled.{HasTakenUp}
use Rattle.slot_batches.specs.Parts.{fill_of}
use Rattle.slot_batches.proofs.RestLemmas.{keep_all, room_to_keep}
use Rattle.slot_batches.proofs.filling.Filling.keep.Goals as goal

pub append_items-requires : goal.append_items-requires
append_items-requires c = room_to_keep c.requires.may.0 c.args.items.now c.args.self.now c.requires.room c.requires.may.1 c.requires.may.2

pub returns-clause-taken_up : goal.returns-clause-taken_up
returns-clause-taken_up c = λ taken is may.
    let items = c.args.items.now in
    let old = c.args.self.now in
    subst (λ (xs : List Item). HasTakenUp (taken ++ items) (record (fill_of old) { waiting = xs })) (sym c.append_items.ensures.items) (keep_all taken items (fill_of old) is may c.requires.none)
