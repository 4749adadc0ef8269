use Rattle.std.proofs.Common.{◌<◌, List, length, set, sym, subst, ◌∙◌, arith}
use Rattle.greedy_rules.specs.declared.flows.Item.{Item}
use Rattle.window_allocation.specs.Logged.{ArePlaced}
use Rattle.window_allocation.proofs.LogWeaving.{placed_behind}
use Rattle.window_allocation.proofs.item_log.push_item.Goals as goal

pub returns-clause-placed : goal.returns-clause-placed
returns-clause-placed c =
    let items = c.args.items.now in
    let at = c.args.at.now in
    let inside : c.place.result < length at = omega (arith, c.place.ensures.within, c.requires.table) in
    subst (λ (xs : List Item). ArePlaced c.args.endpoints (set at c.place.result c.len.result) xs) (sym c.push_reserved.ensures.items)
    (placed_behind c.args.endpoints at items.items c.args.item c.place.result c.len.result c.requires.src c.requires.dst c.requires.new c.place.ensures.place inside (c.len.ensures ∙ items.ok.0) c.requires.placed)
