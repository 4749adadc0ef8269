use Rattle.std.proofs.Common.{◌++◌, List, [], ◌∷◌, take, sym, ap, ◌∙◌, append_assoc, subst}
use Rattle.greedy_rules.specs.declared.flows.Entry.{Entry}
use Rattle.greedy_rules.specs.Batches.{IsAboveLast}
use Rattle.list_facts.proofs.Lists.{take_got}
use Rattle.replay_rounds.proofs.PartLemmas.{rises_at}
use Rattle.replay_rounds.proofs.part.append_entries.Goals as goal

pub push-requires : goal.push-requires
push-requires c =
    let one : Entry = c.entry.result in
    subst (λ (es : List Entry). IsAboveLast es one.flow) (sym c.loop-at.invariant.entries)
    (rises_at c.args.batch.now.entries c.args.behind.now.entries c.loop-at.at one c.entry.ensures c.len-entries.ensures.rising c.len-at-end.ensures.rising c.requires)

pub loop-at-preserved : goal.loop-at-preserved
loop-at-preserved c =
    let behind : List Entry = c.args.behind.now.entries in
    let before : List Entry = c.args.batch.now.entries in
    let at = c.loop-at.at in
    let one : Entry = c.entry.result in
    record {
      entries = c.in_ok-push.ensures.ok
          ∙ (ap (λ (es : List Entry). es ++ one ∷ []) c.loop-at.invariant.entries
          ∙ (append_assoc before (take at behind) (one ∷ [])
          ∙ ap (λ (es : List Entry). before ++ es) (sym (take_got behind at one c.entry.ensures))));
      limits = c.push.ensures.limits ∙ c.loop-at.invariant.limits;
    }
