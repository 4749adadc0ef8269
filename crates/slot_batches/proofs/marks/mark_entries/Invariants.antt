use Rattle.std.proofs.Common.{◌≡◌, length, take}
use Rattle.slot_batches.specs.Marks.{AreMarked}
use Rattle.slot_batches.proofs.marks.mark_entries.Given as goal

abbrev pub invariant-loop-at : goal.invariant-loop-at
invariant-loop-at l = AreMarked (take l.at l.batch.entries) l.words × (length l.words ≡ length l.fn.words)
