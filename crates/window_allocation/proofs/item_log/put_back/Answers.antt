use Rattle.std.proofs.Common.{ℕ, get_or, ◌∙◌, arith}
use Rattle.window_allocation.proofs.LogWeaving.{next_put, put_more, put_ends}
use Rattle.window_allocation.proofs.item_log.put_back.Goals as goal

pub put_one-at-requires-clause-item : goal.put_one-at-requires-clause-item
put_one-at-requires-clause-item c =
    let was = c.loop-place in
    let put = was.invariant.woven c.requires.places.0 c.requires.places.1 in
    let step = next_put c.requires.places.0 was.place-index c.args.places.now c.args.items.now was.items was.at c.args.rest.now c.loop-place-test.true put in
    omega (arith, step.within, was.invariant.size)

pub loop-place-preserved : goal.loop-place-preserved
loop-place-preserved c =
    let was = c.loop-place in
    let to : ℕ = get_or c.args.places.now was.place-index 0 in
    record {
      within = c.put_one-at.ensures.within;
      size = c.put_one-at.ensures.length ∙ was.invariant.size;
      words = c.put_one-at.ensures.words ∙ was.invariant.words;
      placed = λ endpoints table placed. c.put_one-at.ensures.placed endpoints table (was.invariant.placed endpoints table placed);
      bits = λ bits. c.put_one-at.ensures.bits (was.invariant.bits bits);
      woven = λ aside are.
          put_more aside was.place-index c.args.places.now c.args.items.now was.items c.put_one-at.new.items was.at c.put_one-at.result c.args.rest.now c.loop-place-test.true was.invariant.size
          c.put_one-at.ensures.count c.put_one-at.ensures.front c.put_one-at.ensures.behind (was.invariant.woven aside are);
    }

pub returns-clause-items : goal.returns-clause-items
returns-clause-items c = λ aside are.
    let was = c.loop-place in
    put_ends aside was.place-index c.args.places.now c.args.items.now was.items was.at c.args.rest.now (omega (arith, c.loop-place-test.false)) (was.invariant.woven aside are)
