use Rattle.std.proofs.Common.{sym, arith}
use Rattle.edge_colouring.proofs.HoldsLemmas.{named-within}
use Rattle.edge_colouring.proofs.TurnLemmas.{right_turn, left_turn, right_end, left_end, right_room, left_room, turn_is_smaller, AreTurned-back}
use Rattle.edge_colouring.proofs.painting.exchange.Goals as goal

pub turn-requires-clause-edge : goal.turn-requires-clause-edge
turn-requires-clause-edge c = (right_room c.requires c.loop-other.invariant.path c.loop-other.invariant.right_room).0

pub turn-requires-clause-rack : goal.turn-requires-clause-rack
turn-requires-clause-rack c = (right_room c.requires c.loop-other.invariant.path c.loop-other.invariant.right_room).1

pub returns-in_default-clause-right : goal.returns-in_default-clause-right
returns-in_default-clause-right c = (right_end c.requires c.loop-other.invariant.path c.turn.ensures.turn c.loop-other.invariant.right_room c.in_default.is).far_side

pub returns-in_default-clause-left : goal.returns-in_default-clause-left
returns-in_default-clause-left c = (right_end c.requires c.loop-other.invariant.path c.turn.ensures.turn c.loop-other.invariant.right_room c.in_default.is).near_side

pub returns-in_default-clause-turned : goal.returns-in_default-clause-turned
returns-in_default-clause-turned c =
    AreTurned-back c.args.b c.args.a c.args.colours.now c.turn.new.colours
    (right_end c.requires c.loop-other.invariant.path c.turn.ensures.turn c.loop-other.invariant.right_room c.in_default.is).turned

pub turn-requires-in-loop-other-clause-coloured : goal.turn-requires-in-loop-other-clause-coloured
turn-requires-in-loop-other-clause-coloured c =
    let between = right_turn c.requires c.loop-other.invariant.path c.turn.ensures.turn c.loop-other.invariant.right_room c.in-Some.is in
    named-within c.turn.new.colours c.in-Some.other c.args.a between.displaced.now

pub turn-requires-in-loop-other-clause-edge : goal.turn-requires-in-loop-other-clause-edge
turn-requires-in-loop-other-clause-edge c =
    let between = right_turn c.requires c.loop-other.invariant.path c.turn.ensures.turn c.loop-other.invariant.right_room c.in-Some.is in
    (left_room c.requires between c.loop-other.invariant.left_room).0

pub turn-requires-in-loop-other-clause-rack : goal.turn-requires-in-loop-other-clause-rack
turn-requires-in-loop-other-clause-rack c =
    let between = right_turn c.requires c.loop-other.invariant.path c.turn.ensures.turn c.loop-other.invariant.right_room c.in-Some.is in
    (left_room c.requires between c.loop-other.invariant.left_room).1

pub returns-in_default-turn-clause-left : goal.returns-in_default-turn-clause-left
returns-in_default-turn-clause-left c =
    let between = right_turn c.requires c.loop-other.invariant.path c.turn.ensures.turn c.loop-other.invariant.right_room c.in-Some.is in
    (left_end c.requires between c.turn-in-loop-other.ensures.turn c.loop-other.invariant.left_room c.in_default-turn.is).far_side

pub returns-in_default-turn-clause-right : goal.returns-in_default-turn-clause-right
returns-in_default-turn-clause-right c =
    let between = right_turn c.requires c.loop-other.invariant.path c.turn.ensures.turn c.loop-other.invariant.right_room c.in-Some.is in
    (left_end c.requires between c.turn-in-loop-other.ensures.turn c.loop-other.invariant.left_room c.in_default-turn.is).near_side

pub returns-in_default-turn-clause-turned : goal.returns-in_default-turn-clause-turned
returns-in_default-turn-clause-turned c =
    let between = right_turn c.requires c.loop-other.invariant.path c.turn.ensures.turn c.loop-other.invariant.right_room c.in-Some.is in
    (left_end c.requires between c.turn-in-loop-other.ensures.turn c.loop-other.invariant.left_room c.in_default-turn.is).turned

pub loop-other-smaller : goal.loop-other-smaller
loop-other-smaller c =
    let between = right_turn c.requires c.loop-other.invariant.path c.turn.ensures.turn c.loop-other.invariant.right_room c.in-Some.is in
    let one = turn_is_smaller c.loop-other.invariant.path c.turn.ensures.turn (λ e. c.requires.differ (sym e)) in
    let two = turn_is_smaller between c.turn-in-loop-other.ensures.turn c.requires.differ in
    omega (arith, one, two)

pub loop-other-preserved : goal.loop-other-preserved
loop-other-preserved c =
    let between = right_turn c.requires c.loop-other.invariant.path c.turn.ensures.turn c.loop-other.invariant.right_room c.in-Some.is in
    record {
      path = left_turn c.requires between c.turn-in-loop-other.ensures.turn c.loop-other.invariant.left_room c.in-Some-turn.is;
      left_room = omega (arith, c.turn-in-loop-other.ensures.room, c.loop-other.invariant.left_room);
      right_room = omega (arith, c.turn.ensures.room, c.loop-other.invariant.right_room);
    }
