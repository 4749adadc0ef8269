-- The closure gives an entry's flow, and the slice is the batch's entries.
use Rattle.std.proofs.Common.{rules}
use Rattle.std.proofs.lemmas.List.Sorted.{answers_always}
use Rattle.greedy_rules.proofs.Search.{found_entry, batch_rises, not_partitioned}
use Rattle.greedy_rules.proofs.batches.Batch.find.Goals as goal

pub returns-in-Ok : goal.returns-in-Ok
returns-in-Ok c =
    let facts = c.in-Ok.ensures in
    let found = facts.position (λ entry. entry.flow) (answers_always _ _ _ (λ f a r g called. search rules)) in
    let items = c.self.inside.entries.items in
    rw (← c.self.view_is) (found_entry items c.args.flow c.in-Ok.at c.index.result.now c.self.invariant.0 (rw (← c.deref.ensures.value) facts.bound) c.index.ensures (rw (← c.deref.ensures.value) found))

pub returns-in-Err : goal.returns-in-Err
returns-in-Err c =
    let facts = c.in-Err.ensures in
    let lost = facts.position (λ entry. entry.flow) (answers_always _ _ _ (λ f a r g called. search rules)) in
    rw (← c.self.view_is, ← c.deref.ensures.value) (not_partitioned c.deref.result.now c.args.flow c.in-Err.field-0 (lost (batch_rises c.deref.result.now c.args.flow (rw c.deref.ensures.value c.self.invariant.0))))
