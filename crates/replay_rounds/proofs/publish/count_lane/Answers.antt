use Rattle.std.proofs.Common.{◌≡◌, ◌+◌, ◌*◌, ℕ, sym, subst, arith}
use Rattle.std.proofs.Math.Nat.{add-mul}
use Rattle.replay_rounds.specs.Counting.{HasCounted}
use Rattle.replay_rounds.specs.Standing.{LaneStands}
use Rattle.replay_rounds.proofs.SlotCounts.{counting_begins, counting_ends}
use Rattle.replay_rounds.proofs.ToldCounts.{batch_begins, may_be_counted}
use Rattle.replay_rounds.proofs.publish.count_lane.Goals as goal

pub overflow_add-end : goal.overflow_add-end
overflow_add-end c =
    let (setting, collected, is, stood) = c.requires.published in
    omega (arith, is.behind, is.few, c.first_batch.ensures, c.count.ensures, c.from.ensures)

pub loop-batch-init : goal.loop-batch-init
loop-batch-init c = λ setting collected is stood.
    let window = c.args.publisher.now in
    counting_begins c.counting_holds.ensures setting collected c.args.from (window.first_batch + window.count) c.args.src c.read_ahead.new.lane c.requires.last stood

pub count_batch-requires : goal.count_batch-requires
count_batch-requires c =
    let window = c.args.publisher.now in
    let batch : ℕ = c.loop-batch.batch in
    let (setting, collected, is, stood) = c.requires.published in
    let stands : LaneStands setting collected c.args.from c.args.src c.read_ahead.new.lane = subst (LaneStands setting collected c.args.from c.args.src) (sym c.read_ahead.ensures) stood in
    record {
      rest = (
        setting,
        collected,
        window.first_batch + window.count,
        c.args.src,
        may_be_counted setting collected window c.args.src is c.requires.src,
        batch_begins c.counting_holds.ensures setting collected window c.args.src batch c.loop-batch.lane c.told.result.now is c.requires.src (omega (arith, c.requires.first, c.loop-batch.auto.batch)) (omega (arith, c.loop-batch-test.true, c.first_batch.ensures, c.count.ensures, c.from.ensures)) c.told.ensures.told (c.loop-batch.invariant setting collected is stands),
      );
    }

pub loop-batch-preserved : goal.loop-batch-preserved
loop-batch-preserved c = λ setting collected is stood.
    let window = c.args.publisher.now in
    let all : ℕ = window.first_batch + window.count in
    let batch : ℕ = c.loop-batch.batch in
    let rest = batch_begins c.counting_holds.ensures setting collected window c.args.src batch c.loop-batch.lane c.told.result.now is c.requires.src (omega (arith, c.requires.first, c.loop-batch.auto.batch)) (omega (arith, c.loop-batch-test.true, c.first_batch.ensures, c.count.ensures, c.from.ensures)) c.told.ensures.told (c.loop-batch.invariant setting collected is stood) in
    let next : batch * setting.b + setting.b ≡ (batch + 1) * setting.b = omega (arith, add-mul batch 1 setting.b) in
    subst (λ (n : ℕ). HasCounted setting collected all n c.args.src c.count_batch.new.lane) next
    (c.count_batch.ensures setting collected all c.args.src (may_be_counted setting collected window c.args.src is c.requires.src) rest)

pub returns : goal.returns
returns c = record {
  stands = λ setting collected is stood.
      let window = c.args.publisher.now in
      let all : ℕ = window.first_batch + window.count in
      let stands : LaneStands setting collected c.args.from c.args.src c.read_ahead.new.lane = subst (LaneStands setting collected c.args.from c.args.src) (sym c.read_ahead.ensures) stood in
      let end : c.loop-batch.batch ≡ all = omega (arith, c.loop-batch-test.false, c.loop-batch.auto.batch-end, c.requires.last, c.first_batch.ensures, c.count.ensures, c.from.ensures) in
      counting_ends c.counting_holds.ensures setting collected all c.args.src c.loop-batch.lane
      (subst (λ (n : ℕ). HasCounted setting collected all (n * setting.b) c.args.src c.loop-batch.lane) end (c.loop-batch.invariant setting collected is stands));
}
