use Rattle.std.proofs.Common.{◌≡◌, ◌<◌, ◌-◌, ◌^◌, length, bit_and, count_ones, w64, ap, ◌∙◌, rules, arith}
use Rattle.std.specs.Int.{trailing_zeros}
use Rattle.endpoint_bitmaps.proofs.Facts.{lowest_is, ones_without_lowest}
use Rattle.slot_batches.proofs.PutLemmas.{put_one, put_all, last_is_greatest, not_yet}
use Rattle.slot_batches.proofs.filling.put_flow.Goals as goal

pub put-requires-clause-slot_in_range : goal.put-requires-clause-slot_in_range
put-requires-clause-slot_in_range c =
    let fits : c.loop-rest.rest < 2 ^ 64 = search rules in
    let putting = c.loop-rest.invariant.0 in
    let lowest = lowest_is c.loop-rest.rest fits c.loop-rest.invariant.1 in
    let below : trailing_zeros w64 c.loop-rest.rest < length c.args.slots.now.slots = c.requires.within (trailing_zeros w64 c.loop-rest.rest) (putting.part (trailing_zeros w64 c.loop-rest.rest) lowest) in
    omega (arith, below, putting.added.count)

pub put-requires-clause-free : goal.put-requires-clause-free
put-requires-clause-free c =
    let fits : c.loop-rest.rest < 2 ^ 64 = search rules in
    not_yet c.args.flow c.args.places c.loop-rest.rest c.args.slots.now.slots c.loop-rest.slots.slots fits c.loop-rest.invariant.1 c.loop-rest.invariant.0 c.requires.within c.requires.free

pub returns-then-rest-eq0-clause-slots : goal.returns-then-rest-eq0-clause-slots
returns-then-rest-eq0-clause-slots c =
    let fits : c.loop-rest.rest < 2 ^ 64 = search rules in
    let lowest = lowest_is c.loop-rest.rest fits c.loop-rest.invariant.1 in
    let within = c.requires.within (trailing_zeros w64 c.loop-rest.rest) (c.loop-rest.invariant.0.part (trailing_zeros w64 c.loop-rest.rest) lowest) in
    rw c.put.ensures.slots
    (put_all c.args.flow c.args.places _ c.args.slots.now.slots _ c.if-rest-eq0.true
    (put_one c.args.flow c.args.places c.loop-rest.rest c.args.slots.now.slots c.loop-rest.slots.slots fits c.loop-rest.invariant.1 c.loop-rest.invariant.0 within))

pub returns-then-rest-eq0-clause-greatest : goal.returns-then-rest-eq0-clause-greatest
returns-then-rest-eq0-clause-greatest c =
    let fits : c.loop-rest.rest < 2 ^ 64 = search rules in
    last_is_greatest c.args.flow c.args.places c.loop-rest.rest c.args.slots.now.slots c.loop-rest.slots.slots fits c.loop-rest.invariant.1 c.if-rest-eq0.true c.loop-rest.invariant.0

pub returns-then-rest-eq0-clause-count : goal.returns-then-rest-eq0-clause-count
unfolding lib.Count.ones
returns-then-rest-eq0-clause-count c =
    let fits : c.loop-rest.rest < 2 ^ 64 = search rules in
    let none : count_ones (bit_and c.loop-rest.rest (c.loop-rest.rest - 1)) ≡ 0 = ap count_ones c.if-rest-eq0.true in
    omega (arith, c.loop-rest.invariant.3, ones_without_lowest c.loop-rest.rest fits (search rules) c.loop-rest.invariant.1, none)

pub loop-rest-preserved : goal.loop-rest-preserved
loop-rest-preserved c =
    let fits : c.loop-rest.rest < 2 ^ 64 = search rules in
    let lowest = lowest_is c.loop-rest.rest fits c.loop-rest.invariant.1 in
    let within = c.requires.within (trailing_zeros w64 c.loop-rest.rest) (c.loop-rest.invariant.0.part (trailing_zeros w64 c.loop-rest.rest) lowest) in (
      rw c.put.ensures.slots
          (put_one c.args.flow c.args.places c.loop-rest.rest c.args.slots.now.slots c.loop-rest.slots.slots fits c.loop-rest.invariant.1 c.loop-rest.invariant.0 within),
      c.if-rest-eq0.false,
      c.put.ensures.endpoints ∙ c.loop-rest.invariant.2,
      omega (arith, c.loop-rest.invariant.3, ones_without_lowest c.loop-rest.rest fits (search rules) c.loop-rest.invariant.1),
    )
