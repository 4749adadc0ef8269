use Rattle.std.proofs.Common.{◌++◌, ◌∙◌}
use Rattle.std.proofs.lemmas.Bool.{cond-true}
use Rattle.slot_batches.proofs.filling.append_items.Goals as goal

pub returns-then-items-gt4-clause-items : goal.returns-then-items-gt4-clause-items
returns-then-items-gt4-clause-items c =
    let old = c.args.waiting.now in
    c.extend_from_slice.ensures.items ∙ cond-true _ (old.items ++ c.args.items.now) old.items (c.extend_from_slice.ensures.succeeds c.requires)
