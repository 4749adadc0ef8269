use Rattle.std.proofs.Common.{◌≡◌, ◌<◌, ◌+◌, ◌++◌, ◌∷◌, [], length, take, drop, ap, ◌∙◌, arith}
use Rattle.std.proofs.lemmas.List.{length-append, length-drop, length-take, drop-drop}
use Rattle.greedy_rules.specs.Demands.{opened}
use Rattle.slot_batches.proofs.StageLemmas.{opened_one_more}
use Rattle.slot_batches.proofs.NodeCounts.{opened_front, opened_few}
use Rattle.slot_batches.proofs.chains.open_nodes.Goals as goal

pub open_node-requires-clause-some : goal.open_node-requires-clause-some
open_node-requires-clause-some c =
    let batch = c.args.batch.now.entries in
    let at = c.loop-at.at in
    let below : at < length batch = omega (arith, c.loop-at-test.true, c.len-at-end.ensures.entries) in
    let more : opened (take (at + 1) batch) ≡ opened (take at batch) ++ opened (c.entry.result ∷ []) = opened_one_more at batch c.entry.result [] below c.entry.ensures in
    omega (
      arith,
      ap length c.loop-at.invariant.spare,
      length-drop (length (opened (take at batch))) c.args.spare.now,
      ap length more,
      length-append (opened (take at batch)) (opened (c.entry.result ∷ [])),
      opened_front (at + 1) batch,
      c.requires.some,
    )

pub open_node-requires-clause-fits : goal.open_node-requires-clause-fits
open_node-requires-clause-fits c =
    omega (arith, c.loop-at.invariant.loose, opened_few (take c.loop-at.at c.args.batch.now.entries), length-take c.loop-at.at c.args.batch.now.entries, c.loop-at-test.true, c.len-at-end.type_inv)

pub loop-at-preserved : goal.loop-at-preserved
loop-at-preserved c =
    let batch = c.args.batch.now.entries in
    let at = c.loop-at.at in
    let below : at < length batch = omega (arith, c.loop-at-test.true, c.len-at-end.ensures.entries) in
    let more : opened (take (at + 1) batch) ≡ opened (take at batch) ++ opened (c.entry.result ∷ []) = opened_one_more at batch c.entry.result [] below c.entry.ensures in
    let count : length (opened (take at batch)) + length (opened (c.entry.result ∷ [])) ≡ length (opened (take (at + 1) batch)) =
    omega (arith, ap length more, length-append (opened (take at batch)) (opened (c.entry.result ∷ []))) in
    record {
      loose = omega (arith, c.open_node.ensures.loose, c.loop-at.invariant.loose, count);
      spare = c.open_node.ensures.spare
          ∙ (ap (drop (length (opened (c.entry.result ∷ [])))) c.loop-at.invariant.spare
          ∙ (drop-drop (length (opened (c.entry.result ∷ []))) (length (opened (take at batch))) c.args.spare.now ∙ ap (λ n. drop n c.args.spare.now) count));
    }
