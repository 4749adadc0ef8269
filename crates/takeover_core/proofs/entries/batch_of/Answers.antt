use Rattle.std.proofs.Common.{◌++◌, ℕ, List, sym, ap, ◌∙◌}
use Rattle.takeover_core.proofs.Rising.{rows_more}
use Rattle.greedy_rules.specs.declared.flows.Entry.{Entry}
use Rattle.takeover_core.specs.Entries.{entries_row}
use Rattle.takeover_core.proofs.entries.batch_of.Goals as goal

pub loop-src-preserved : goal.loop-src-preserved
loop-src-preserved c =
    let is = c.in_ok-push_rises.ensures in
    let was = c.loop-src.invariant in
    let row : ℕ → List Entry = λ s. entries_row c.args.told.now c.args.published.now s c.args.endpoints in
    record {
      entries = is.entries ∙ (ap (λ (xs : List Entry). xs ++ row c.loop-src.src) was.entries ∙ sym (rows_more row c.loop-src.src));
      above = is.above;
      limits = is.limits ∙ was.limits;
    }
