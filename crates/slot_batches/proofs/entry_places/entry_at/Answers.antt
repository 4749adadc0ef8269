use Rattle.std.proofs.Common.{◌≡◌, sym, ◌∙◌}
use Rattle.std.proofs.lemmas.Bool.{not-false}
use Rattle.greedy_rules.proofs.Facts.{same_flow-true}
use Rattle.slot_batches.proofs.EntryLemmas.{entry_read}
use Rattle.slot_batches.proofs.entry_places.entry_at.Goals as goal

pub returns : goal.returns
returns c =
    let flow = c.args.flow in
    let entry = c.entry-entry.result in
    let same : entry.flow ≡ flow = same_flow-true entry.flow flow (not-false _ (sym c.ne.ensures ∙ c.if-ne.false)) in
    entry_read c.args.batch.now.entries flow c.args.place entry c.len.ensures.rising c.entry-entry.ensures same
