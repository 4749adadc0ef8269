use Rattle.std.proofs.Common.{◌≡◌, [], ◌∷◌, ◌++◌, sym, subst}
use Rattle.greedy_rules.specs.Batches.{DemandBatch, IsAboveLast}
use Rattle.greedy_rules.proofs.BatchLemmas.{IsBatch-push}
use Rattle.greedy_rules.proofs.batches.Batch.push.Goals as goal

pub invariant_of-self-2 : goal.invariant_of-self-2
invariant_of-self-2 c =
    let entries = c.self.inside.entries.items in
    let after : c.push.new.self.items ≡ entries ++ c.args.entry ∷ [] = c.in_ok-push.ensures.items in
    let above : IsAboveLast entries c.args.entry.flow = subst (λ (b : DemandBatch). IsAboveLast b.entries c.args.entry.flow) (sym c.self.view_is) c.requires in
    (rw after (IsBatch-push entries c.args.entry c.self.invariant.0 above), c.self.invariant.1)
