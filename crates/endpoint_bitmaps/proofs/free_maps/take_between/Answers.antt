use Rattle.std.proofs.Common.{rules, ◌<◌, ◌^◌, length, w64, arith}
use Rattle.std.specs.Int.{trailing_zeros}
use Rattle.endpoint_bitmaps.proofs.WordLemmas.{lowest_is}
use Rattle.endpoint_bitmaps.proofs.LowestLemmas.{next_taken, all_taken}
use Rattle.endpoint_bitmaps.proofs.LinkLemmas.{left_there, taking_more, taking_stops}
use Rattle.endpoint_bitmaps.proofs.free_maps.take_between.Goals as goal
use Rattle.endpoint_bitmaps.proofs.free_maps.take_between.Goals.{else-loop-test, then-loop-test+then-free-eq0}

pub take_one-requires-clause-left : goal.take_one-requires-clause-left
take_one-requires-clause-left c =
    let was = c.args.leaving.now in
    let now = c.loop.leaving in
    let fits : c.loop.free < 2 ^ 64 = search rules in
    let old_below : c.args.from < length was.left.items = omega (arith, c.requires.from, was.left.ok) in
    left_there c.args.cores c.args.from c.args.slots c.loop.free (trailing_zeros w64 c.loop.free) was.taken.items was.left.items now.taken.items now.left.items
    (omega (arith, old_below, c.loop.invariant.leaving_racks)) old_below (search rules) c.requires.leaving c.requires.leaving_left c.loop.invariant.leaving
    (lowest_is c.loop.free fits c.if-free-eq0.false)

pub take_one-requires-in-loop-clause-left : goal.take_one-requires-in-loop-clause-left
take_one-requires-in-loop-clause-left c =
    let was = c.args.entering.now in
    let now = c.loop.entering in
    let fits : c.loop.free < 2 ^ 64 = search rules in
    let old_below : c.args.to < length was.left.items = omega (arith, c.requires.to, was.left.ok) in
    left_there c.args.cores c.args.to c.args.slots c.loop.free (trailing_zeros w64 c.loop.free) was.taken.items was.left.items now.taken.items now.left.items
    (omega (arith, old_below, c.loop.invariant.entering_racks)) old_below (search rules) c.requires.entering c.requires.entering_left c.loop.invariant.entering
    (lowest_is c.loop.free fits c.if-free-eq0.false)

pub loop-preserved : goal.loop-preserved
loop-preserved c =
    let was = c.loop.invariant in
    let left = c.take_one.ensures in
    let entered = c.take_one-in-loop.ensures in
    let leaving = c.take_one.new.self in
    let entering = c.take_one-in-loop.new.self in
    let fits : c.loop.free < 2 ^ 64 = search rules in
    record {
      lowest = λ k. next_taken c.args.slots c.loop.free c.loop.counter k fits c.if-free-eq0.false was.lowest;
      leaving = taking_more c.args.cores c.args.from c.args.slots c.loop.free c.args.leaving.now.taken.items c.loop.leaving.taken.items c.loop.leaving.left.items leaving.taken.items leaving.left.items
          fits c.if-free-eq0.false was.leaving left.taken left.shows;
      entering = taking_more c.args.cores c.args.to c.args.slots c.loop.free c.args.entering.now.taken.items c.loop.entering.taken.items c.loop.entering.left.items entering.taken.items entering.left.items
          fits c.if-free-eq0.false was.entering entered.taken entered.shows;
      leaving_racks = omega (arith, left.racks, c.loop.leaving.left.ok, leaving.left.ok, was.leaving_racks);
      entering_racks = omega (arith, entered.racks, c.loop.entering.left.ok, entering.left.ok, was.entering_racks);
      leaving_used = (omega (arith, left.used.0, was.leaving_used.0), left.used.1);
      entering_used = (omega (arith, entered.used.0, was.entering_used.0), entered.used.1);
    }

pub returns-clause-lowest : goal.returns-clause-lowest
returns-clause-lowest c = λ slot. all_taken c.args.slots c.loop.free c.loop.counter c.args.need slot c.ranges.slots.fits (search rules) c.loop.auto.counter-end c.loop.invariant.lowest (λ before. elim c.loop-test.branch [
  | else-loop-test w ↦ absurd (omega (arith, w.loop-test))
  | then-loop-test+then-free-eq0 w ↦ w.if-free-eq0.true
])

pub returns-clause-leaving : goal.returns-clause-leaving
returns-clause-leaving c =
    taking_stops c.args.cores c.args.from c.args.slots c.loop.free c.args.leaving.now.taken.items c.loop.leaving.taken.items c.loop.leaving.left.items c.ranges.slots.fits (search rules)
    c.loop.invariant.leaving

pub returns-clause-entering : goal.returns-clause-entering
returns-clause-entering c =
    taking_stops c.args.cores c.args.to c.args.slots c.loop.free c.args.entering.now.taken.items c.loop.entering.taken.items c.loop.entering.left.items c.ranges.slots.fits (search rules)
    c.loop.invariant.entering
