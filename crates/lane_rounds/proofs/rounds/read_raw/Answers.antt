use Rattle.std.proofs.Common.{◌≡◌, ◌+◌, List, ◌∷◌, ◌++◌, drop, sym, ◌∙◌, ap, subst, refl, arith}
use Rattle.std.proofs.lemmas.List.{drop_more, drop_all}
use Rattle.arbiter_lane.specs.State.{LaneState}
use Rattle.arbiter_lane.specs.Standing as lanes
use Rattle.arbiter_lane.specs.Refusals.{up_refusal}
use Rattle.lane_rounds.specs.Raw.{Raw}
use Rattle.lane_rounds.specs.Refused.{with_arrival, numbered_refusal}
use Rattle.lane_rounds.proofs.Raw.{HasRead, read-more, read-begins, read-ends, for_same}
use Rattle.lane_rounds.proofs.rounds.read_raw.Goals as goal

pub loop-packet-init : goal.loop-packet-init
loop-packet-init c =
    let was : LaneState = c.args.lane.now in
    record {
      same = record { endpoint = refl; endpoints = refl; b = refl; g = refl; round = refl; is_made = refl };
      stands = λ history allocations stood. read-begins was.endpoint was.endpoints c.args.round c.args.raw.now history allocations was c.args.refused.now stood;
    }

pub loop-packet-preserved : goal.loop-packet-preserved
loop-packet-preserved c =
    let was : LaneState = c.args.lane.now in
    let lane : LaneState = c.loop-packet.lane in
    let raw = c.args.raw.now in
    let i = c.loop-packet.packet-index in
    let inv = c.loop-packet.invariant in
    let same = inv.same in
    let now = c.read_one.ensures.same in
    let r : Raw = c.packet-item.result in
    let left = drop (i + 1) raw in
    record {
      same = record {
        endpoint = now.endpoint ∙ same.endpoint;
        endpoints = now.endpoints ∙ same.endpoints;
        b = now.b ∙ same.b;
        g = now.g ∙ same.g;
        round = now.round ∙ same.round;
        is_made = now.is_made ∙ same.is_made;
      };
      stands = λ history allocations stood.
          read-more was.endpoint was.endpoints c.args.round raw r left history allocations lane c.read_one.new.lane c.args.refused.now c.loop-packet.refused c.read_one.new.refused
          (subst (λ (rs : List Raw). HasRead was.endpoint was.endpoints c.args.round raw rs history allocations lane c.args.refused.now c.loop-packet.refused) (drop_more raw i r c.loop-packet-test.true ∙ ap (λ (x : Raw). x ∷ left) (sym c.packet-item.is)) (inv.stands history allocations stood))
          (λ before it. for_same was lane same (λ endpoint endpoints. lanes.LaneStandsFor c.read_one.new.lane (with_arrival endpoint endpoints c.args.round r.bytes before) allocations) (c.read_one.ensures.stands before allocations it))
          (λ before it. for_same was lane same (λ endpoint endpoints. c.read_one.new.refused ≡ c.loop-packet.refused ++ numbered_refusal r.place (up_refusal endpoint endpoints before r.bytes)) (c.in_ok-read_one.ensures.refused before allocations it));
    }

pub returns-clause-stands : goal.returns-clause-stands
returns-clause-stands c = λ history allocations stood.
    let was : LaneState = c.args.lane.now in
    (read-ends was.endpoint was.endpoints c.args.round c.args.raw.now (drop c.loop-packet.packet-index c.args.raw.now) history allocations c.loop-packet.lane c.args.refused.now c.loop-packet.refused
    (drop_all c.loop-packet.packet-index c.args.raw.now (omega (arith, c.loop-packet-test.false))) (c.loop-packet.invariant.stands history allocations stood)).0

pub returns-clause-refused : goal.returns-clause-refused
returns-clause-refused c = λ history allocations stood.
    let was : LaneState = c.args.lane.now in
    (read-ends was.endpoint was.endpoints c.args.round c.args.raw.now (drop c.loop-packet.packet-index c.args.raw.now) history allocations c.loop-packet.lane c.args.refused.now c.loop-packet.refused
    (drop_all c.loop-packet.packet-index c.args.raw.now (omega (arith, c.loop-packet-test.false))) (c.loop-packet.invariant.stands history allocations stood)).1
