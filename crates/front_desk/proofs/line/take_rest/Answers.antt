use Rattle.std.proofs.Common.{ℕ, List, length, ap, arith}
use Rattle.std.proofs.lemmas.List.{length-append}
use Rattle.rtrb.specs.Ring.{received, known_items}
use Rattle.front_desk.proofs.Reading.{as_many_answers}
use Rattle.front_desk.proofs.line.take_rest.Goals as goal

pub read-requires-clause-room : goal.read-requires-clause-room
read-requires-clause-room c =
    let was = c.requires.read in
    let now = c.loop.invariant.read was.0 was.1 was.2 in
    let all = ap (λ (xs : List (List ℕ)). length xs) c.loop.invariant.all in
    let many = as_many_answers was.0 was.1 (received c.loop.ring) c.loop.answers.items now.answers_are in
    omega (
      arith,
      c.requires.room,
      c.loop.invariant.room,
      c.loop.invariant.left,
      c.loop-test.true,
      all,
      many,
      c.loop.answers.ok.0,
      length-append (received c.loop.ring) (known_items c.loop.ring),
      length-append (received c.args.ring.now) (known_items c.args.ring.now),
    )
