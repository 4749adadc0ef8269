use Rattle.std.proofs.Common.{◌<◌, ◌+◌, ◌++◌, length, take, sym, ap, ◌∙◌, arith, append_assoc, length-append, List, ◌∷◌, []}
use Rattle.greedy_rules.specs.declared.flows.Item.{Item}
use Rattle.greedy_rules.specs.Demands.{opened}
use Rattle.greedy_rules.proofs.ApplyLemmas.{opened_more, opened_fits}
use Rattle.greedy_rules.proofs.plain.open_flows.Goals as goal

pub open_flow-requires : goal.open_flow-requires
open_flow-requires c =
    let batch = c.args.batch.now.entries in
    let at = c.loop-at.at in
    let below : at < length batch = omega (arith, c.len-at-end.ensures.entries) in
    omega (arith, c.loop-at.invariant.spare, opened_fits batch (at + 1), ap length (opened_more batch at c.entry.result below c.entry.ensures), length-append (opened (take at batch)) (opened (c.entry.result ∷ [])))

pub loop-at-preserved : goal.loop-at-preserved
loop-at-preserved c =
    let batch = c.args.batch.now.entries in
    let at = c.loop-at.at in
    let below : at < length batch = omega (arith, c.len-at-end.ensures.entries) in
    let more = opened_more batch at c.entry.result below c.entry.ensures in
    record {
      items = c.open_flow.ensures.items
          ∙ (ap (λ (xs : List Item). xs ++ opened (c.entry.result ∷ [])) c.loop-at.invariant.items
          ∙ (append_assoc c.args.list.now.items (opened (take at batch)) (opened (c.entry.result ∷ []))
          ∙ ap (λ (xs : List Item). c.args.list.now.items ++ xs) (sym more)));
      spare = omega (arith, c.open_flow.ensures.spare, c.loop-at.invariant.spare, ap length more, length-append (opened (take at batch)) (opened (c.entry.result ∷ [])));
    }
