use Rattle.std.proofs.Common.{sym, ◌∙◌}
use Rattle.slot_batches.proofs.MarkLemmas.{not_marked_item}
use Rattle.slot_batches.proofs.opening.with_near_entry.Goals as goal

pub returns-then-not-is_marked : goal.returns-then-not-is_marked
returns-then-not-is_marked c = not_marked_item c.args.batch.now.entries c.args.marks.now c.args.item c.requires.marks (sym c.is_marked.ensures ∙ c.if-not-is_marked.true)
