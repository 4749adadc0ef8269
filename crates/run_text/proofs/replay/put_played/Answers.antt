use Rattle.std.proofs.Common.{length, refl, ap, arith}
use Rattle.run_lines.specs.Steps.{played_round}
use Rattle.run_text.proofs.NumberedTexts.{numbers_more, numbers_whole}
use Rattle.run_text.proofs.replay.put_played.Goals as goal

pub loop-at-preserved : goal.loop-at-preserved
loop-at-preserved g c =
    c.texts_follow.ensures.after c.loop-at.invariant c.in_ok-put_round.ensures (numbers_more (played_round c.args.step.now.collected.first c.args.step.now.played) c.loop-at.at)

pub returns-in_err-put_round : goal.returns-in_err-put_round
returns-in_err-put_round g c =
    let played = c.args.step.now.played in
    c.texts_follow.ensures.stopped _ (c.texts_follow.ensures.after c.loop-at.invariant c.in_err-put_round.ensures refl) c.from_residual.ensures.1 (numbers_whole (played_round c.args.step.now.collected.first played) (length played.batches) c.loop-at.at (omega (arith, ap length c.batches.ensures)))
