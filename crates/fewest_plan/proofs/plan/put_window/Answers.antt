use Rattle.std.proofs.Common.{◌<◌, ℕ, length, refl, arith}
use Rattle.run_text.proofs.BatchTexts.{batches_more, batches_whole}
use Rattle.fewest_plan.specs.Progress.{cores_of_window}
use Rattle.fewest_plan.proofs.plan.put_window.Goals as goal

pub returns-in_err-put_batch : goal.returns-in_err-put_batch
returns-in_err-put_batch g c =
    let window = c.args.window.now in
    let b : ℕ = c.args.b in
    let below : c.loop-at.at < length window.batches.items = omega arith in
    c.texts_follow.ensures.stopped _ (c.texts_follow.ensures.after c.loop-at.invariant c.in_err-put_batch.ensures refl) c.from_residual.ensures.1
    (batches_whole (cores_of_window b window) b window.first c.loop-at.at window.batches.items window.slots.slots below c.requires.window.slots)

pub loop-at-preserved : goal.loop-at-preserved
loop-at-preserved g c =
    let window = c.args.window.now in
    let b : ℕ = c.args.b in
    let below : c.loop-at.at < length window.batches.items = omega arith in
    c.texts_follow.ensures.after c.loop-at.invariant c.in_ok-put_batch.ensures (batches_more (cores_of_window b window) b window.first c.loop-at.at window.batches.items window.slots.slots below)
