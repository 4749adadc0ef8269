use Rattle.std.proofs.Common.{◌+◌, arith}
use Rattle.replay_rounds.specs.Standing.{LaneStands}
use Rattle.replay_rounds.proofs.LaneLists.{gone_on, next_one, none_yet, all_by_now}
use Rattle.replay_rounds.proofs.publish.count_slots.Goals as goal

pub loop-src-init : goal.loop-src-init
loop-src-init c = λ setting collected is stood endpoint lane at.
    let window = c.args.publisher.now in
    none_yet (LaneStands setting collected) c.args.from (window.first_batch + window.count) endpoint lane (stood endpoint lane at)

pub count_lane-requires-clause-published : goal.count_lane-requires-clause-published
count_lane-requires-clause-published c =
    let window = c.args.publisher.now in
    let (setting, collected, is, stood) = c.requires.published in
    (setting, collected, is, next_one (LaneStands setting collected) c.args.from (window.first_batch + window.count) c.loop-src.lanes c.loop-src.src c.index-lanes-src.result (omega arith) (c.loop-src.invariant setting collected is stood))

pub loop-src-preserved : goal.loop-src-preserved
loop-src-preserved c = λ setting collected is stood.
    let window = c.args.publisher.now in
    let before = next_one (LaneStands setting collected) c.args.from (window.first_batch + window.count) c.loop-src.lanes c.loop-src.src c.index-lanes-src.result (omega arith) (c.loop-src.invariant setting collected is stood) in
    gone_on (LaneStands setting collected) c.args.from (window.first_batch + window.count) c.loop-src.lanes c.loop-src.src c.count_lane.new.lane (omega arith)
    (c.count_lane.ensures.stands setting collected is before) (c.loop-src.invariant setting collected is stood)

pub returns-clause-stands : goal.returns-clause-stands
returns-clause-stands c = λ setting collected is stood.
    let window = c.args.publisher.now in
    all_by_now (LaneStands setting collected) c.args.from (window.first_batch + window.count) c.loop-src.lanes c.loop-src.src (omega arith) (c.loop-src.invariant setting collected is stood)
