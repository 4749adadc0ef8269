use Rattle.std.proofs.Common.{◌++◌, [], List, sym, ap, ◌∙◌}
use Rattle.std.specs.List.{cons_option}
use Rattle.std.proofs.lemmas.List.{append_assoc}
use Rattle.greedy_rules.specs.declared.flows.Entry.{Entry}
use Rattle.takeover_core.specs.Entries.{entry_at, entries_row}
use Rattle.takeover_core.proofs.Rising.{row_more}
use Rattle.takeover_core.proofs.entries.push_rises.Goals as goal

pub loop-dst-preserved : goal.loop-dst-preserved
loop-dst-preserved c =
    let is = c.in_ok-push_rise.ensures in
    let was = c.loop-dst.invariant in
    let told = c.args.told.now in
    let published = c.args.published.now in
    let before = c.args.batch.now.entries in
    let one = cons_option (entry_at told published c.args.src c.loop-dst.dst) [] in
    record {
      entries = is.entries
          ∙ (ap (λ (xs : List Entry). xs ++ one) was.entries
          ∙ (append_assoc before (entries_row told published c.args.src c.loop-dst.dst) one
          ∙ ap (λ (xs : List Entry). before ++ xs) (sym (row_more (entry_at told published c.args.src) c.loop-dst.dst))));
      above = is.above;
      limits = is.limits ∙ was.limits;
    }
