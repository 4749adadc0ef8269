use Rattle.std.proofs.Common.{◌≡◌, ◌<◌, ◌*◌, length, refl, ap, ◌∙◌, ℕ, arith}
use Rattle.window_engine.specs.Step.{Span}
use Rattle.run_lines.specs.Steps.{cores_of_step}
use Rattle.run_text.proofs.BatchTexts.{batches_more, batches_whole}
use Rattle.run_text.proofs.plan.put_window.Goals as goal

pub returns-in_err-put_batch : goal.returns-in_err-put_batch
returns-in_err-put_batch g c =
    let step = c.args.step.now in
    let b : ℕ = c.args.b in
    let window = c.requires.window in
    let below : c.loop-at.at < length step.played.batches = omega (arith, window.all_allocated, ap (λ (s : Span). s.count) c.allocated-span.ensures) in
    let long : length step.window.slots.slots ≡ length step.played.batches * b = window.slots ∙ ap (λ (n : ℕ). n * b) window.all_allocated in
    c.texts_follow.ensures.stopped _ (c.texts_follow.ensures.after c.loop-at.invariant c.in_err-put_batch.ensures refl) c.from_residual.ensures.1 (batches_whole (cores_of_step b step) b step.window.span.first c.loop-at.at step.played.batches step.window.slots.slots below long)

pub loop-at-preserved : goal.loop-at-preserved
loop-at-preserved g c =
    let step = c.args.step.now in
    let b : ℕ = c.args.b in
    let below : c.loop-at.at < length step.played.batches = omega (arith, c.requires.window.all_allocated, ap (λ (s : Span). s.count) c.allocated-span.ensures) in
    c.texts_follow.ensures.after c.loop-at.invariant c.in_ok-put_batch.ensures (batches_more (cores_of_step b step) b step.window.span.first c.loop-at.at step.played.batches step.window.slots.slots below)
