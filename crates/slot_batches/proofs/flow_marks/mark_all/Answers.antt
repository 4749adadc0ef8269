use Rattle.std.proofs.Common.{◌≡◌, true, take, ◌∙◌, subst}
use Rattle.std.proofs.lemmas.List.Elements.{All-more, All-weaker}
use Rattle.greedy_rules.specs.declared.flows.Entry.{Entry}
use Rattle.greedy_rules.specs.Batches.{DemandBatch}
use Rattle.slot_batches.specs.Marks.{has_own_bit, HaveOwnBits}
use Rattle.slot_batches.proofs.flow_marks.mark_all.Goals as goal

pub loop-batch-preserved : goal.loop-batch-preserved
loop-batch-preserved c =
    let batches = c.args.batches.now in
    let at = c.loop-batch.batch-index in
    let batch = c.batch-item.result in
    let words = c.mark_batch.new.words in
    let Was : DemandBatch → Type 0 = λ b. HaveOwnBits b.entries c.loop-batch.words in
    let Marked : DemandBatch → Type 0 = λ b. HaveOwnBits b.entries words in
    let kept : (b : DemandBatch) → Was b → Marked b =
    λ b was. All-weaker (λ (e : Entry). has_own_bit c.loop-batch.words e.flow ≡ true) (λ e. has_own_bit words e.flow ≡ true) (λ e is. c.mark_batch.ensures.others e.flow is) b.entries was in
    record {
      marked = All-more Marked batches at batch c.loop-batch-test.true (All-weaker Was Marked kept (take at batches) c.loop-batch.invariant.marked) (subst Marked c.batch-item.is c.mark_batch.ensures.marked);
      count = c.mark_batch.ensures.count ∙ c.loop-batch.invariant.count;
    }
