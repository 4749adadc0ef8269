use Rattle.std.proofs.Common.{rules, ◌≢◌, arith}
use Rattle.endpoint_bitmaps.proofs.LowestLemmas.{next_taken, all_taken, few_are_all, some_left}
use Rattle.endpoint_bitmaps.proofs.free_maps.lowest.Goals as goal

pub returns-then-slots-need : goal.returns-then-slots-need
returns-then-slots-need c = λ slot. few_are_all c.args.slots c.args.need slot c.ranges.slots.fits c.if-slots-need.true

pub overflow_sub-rest : goal.overflow_sub-rest
overflow_sub-rest c = omega (arith, some_left c.args.slots c.loop.rest c.loop.counter c.ranges.slots.fits (omega arith) c.loop.invariant)

pub loop-preserved : goal.loop-preserved
loop-preserved c =
    let some : c.loop.rest ≢ 0 = some_left c.args.slots c.loop.rest c.loop.counter c.ranges.slots.fits (omega arith) c.loop.invariant in
    λ k. next_taken c.args.slots c.loop.rest c.loop.counter k (search rules) some c.loop.invariant

pub returns : goal.returns
returns c = λ slot. all_taken c.args.slots c.loop.rest c.loop.counter c.args.need slot c.ranges.slots.fits (search rules) c.loop.auto.counter-end c.loop.invariant (λ before. absurd (omega (arith, before)))
