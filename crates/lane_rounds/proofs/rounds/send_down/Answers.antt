use Rattle.std.proofs.Common.{Some, None, take}
use Rattle.endpoint_history.specs.Lane.{packet_down}
use Rattle.arbiter_lane.specs.State.{LaneState}
use Rattle.lane_rounds.specs.Standing.{spell_down}
use Rattle.lane_rounds.proofs.Posting.{made-spells, carried-none, carried-one}
use Rattle.lane_rounds.proofs.rounds.send_down.Goals as goal

pub returns-in_ok-send-in-Some-clause-spelled : goal.returns-in_ok-send-in-Some-clause-spelled
returns-in_ok-send-in-Some-clause-spelled c = λ history allocations stood.
    let lane : LaneState = c.args.lane.now in
    made-spells lane.endpoint lane.endpoints lane.b (packet_down lane.g history c.args.round c.args.told.now.items) (Some c.in-Some.length) c.make_down.new.buf
    (c.in-Some.ensures.packet history allocations stood) (c.in-Some.ensures.spelled history allocations stood)

pub returns-in_err-send-in-Some-clause-spelled : goal.returns-in_err-send-in-Some-clause-spelled
returns-in_err-send-in-Some-clause-spelled c = λ history allocations stood.
    let lane : LaneState = c.args.lane.now in
    made-spells lane.endpoint lane.endpoints lane.b (packet_down lane.g history c.args.round c.args.told.now.items) (Some c.in-Some.length) c.make_down.new.buf
    (c.in-Some.ensures.packet history allocations stood) (c.in-Some.ensures.spelled history allocations stood)

pub returns-in-None-clause-spelled : goal.returns-in-None-clause-spelled
returns-in-None-clause-spelled c = λ history allocations stood.
    let lane : LaneState = c.args.lane.now in
    made-spells lane.endpoint lane.endpoints lane.b (packet_down lane.g history c.args.round c.args.told.now.items) None c.make_down.new.buf
    (c.in-None.ensures.packet history allocations stood) (c.in-None.ensures.spelled history allocations stood)

pub returns-in_ok-send-in-Some-clause-carried : goal.returns-in_ok-send-in-Some-clause-carried
returns-in_ok-send-in-Some-clause-carried c = λ history allocations departures stood it.
    let lane : LaneState = c.args.lane.now in
    carried-one c.rounds_are_read_in_order.ensures.next (spell_down lane.endpoint) c.args.world.now c.send.new.self c.args.round c.args.fate (packet_down lane.g history c.args.round c.args.told.now.items) (take c.in-Some.length c.make_down.new.buf) departures
    (c.in-Some.ensures.packet history allocations stood) c.in_ok-send-in-Some.ensures.stands it

pub returns-in-None-clause-carried : goal.returns-in-None-clause-carried
returns-in-None-clause-carried c = λ history allocations departures stood it.
    let lane : LaneState = c.args.lane.now in
    carried-none (spell_down lane.endpoint) c.args.world.now c.args.round c.args.fate (packet_down lane.g history c.args.round c.args.told.now.items) departures (c.in-None.ensures.packet history allocations stood) it
