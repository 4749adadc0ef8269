use Rattle.std.proofs.Common.{ℕ, List, length, drop, ap, arith}
use Rattle.std.proofs.lemmas.List.{length-append, length-drop, length-map}
use Rattle.window_allocation.specs.Logged.{item_at, items_at}
use Rattle.window_allocation.proofs.item_log.take_items.Goals as goal

pub push-requires : goal.push-requires
push-requires c =
    let was = c.loop-at in
    let items = c.args.items.now in
    let places = c.args.places.now in
    let left : List ℕ = drop was.at-index places in
    omega (
      arith,
      c.requires.room,
      was.invariant.room,
      ap length was.invariant.found,
      length-append was.found.items (items_at items left),
      length-append c.args.found.now.items (items_at items places),
      length-map left (item_at items),
      length-map places (item_at items),
      length-drop was.at-index places,
      c.len.ensures,
      c.if-most-len.false,
      c.if-most-len-2.false,
      c.len-else-most-len.ensures,
      c.loop-at-test.true,
    )
