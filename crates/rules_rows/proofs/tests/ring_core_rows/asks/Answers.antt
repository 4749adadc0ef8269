use Rattle.std.proofs.Common.{true, false, List, All, refl, sym, ◌∙◌, subst, arith}
use Rattle.std.proofs.lemmas.List.Elements.{All-push}
use Rattle.greedy_rules.specs.declared.flows.Entry.{Entry}
use Rattle.greedy_rules.specs.Batches.{IsAboveLast}
use Rattle.rules_rows.specs.Asks.{OpensOneSlot}
use Rattle.rules_rows.proofs.AskLemmas.{above_pushed, source_below}
use Rattle.rules_rows.proofs.tests.ring_core_rows.asks.Goals as goal

pub loop-src-preserved : goal.loop-src-preserved
loop-src-preserved c =
    let was = c.loop-src.invariant in
    let entry : Entry = record { flow = record { src = c.loop-src.src; dst = 0 }; opens = true; clear = false; add = 1 } in
    let told = c.in_ok-push.ensures in
    let opens : OpensOneSlot entry = (omega (arith, c.loop-src.auto.src), omega (arith, c.loop-src-test.true, c.loop-src.auto.src-end), refl, refl, refl, refl) in
    record {
      opens = subst (All OpensOneSlot) (sym told.ok) (All-push OpensOneSlot c.loop-src.batch.entries entry was.opens opens);
      above = λ src le. subst (λ (es : List Entry). IsAboveLast es (record { src = src; dst = 0 })) (sym told.ok)
          (above_pushed c.loop-src.batch.entries entry (record { src = src; dst = 0 }) (source_below c.loop-src.src src (omega (arith, le))));
      limits = told.limits ∙ was.limits;
    }
