use Rattle.std.proofs.Common.{◌≡◌, ◌+◌, ◌++◌, [], ◌∷◌, length, drop, get_or, ap, ◌∙◌, arith}
use Rattle.std.proofs.lemmas.List.{drop_more, length-append}
use Rattle.std.proofs.lemmas.List.Elements.{filter-append}
use Rattle.greedy_rules.specs.declared.flows.Item.{Item}
use Rattle.window_allocation.specs.Logged.{standing}
use Rattle.window_allocation.proofs.LogWeaving.{stands}
use Rattle.window_allocation.proofs.item_log.append_standing.Goals as goal

abbrev nothing : Item
nothing = record { flow = record { src = 0; dst = 0 }; need = 0; last = 0 }

pub append_one-requires : goal.append_one-requires
append_one-requires c =
    let was = c.loop-item in
    let items = c.args.items.now in
    let at = was.item-index in
    let item : Item = get_or items at nothing in
    let left : standing (drop at items) ≡ standing (item ∷ []) ++ standing (drop (at + 1) items) =
    ap standing (drop_more items at nothing c.loop-item-test.true) ∙ filter-append stands (item ∷ []) (drop (at + 1) items) in
    omega (
      arith,
      c.requires,
      was.invariant.room,
      ap length was.invariant.items,
      ap length left,
      length-append was.list.items (standing (drop at items)),
      length-append c.args.list.now.items (standing items),
      length-append (standing (item ∷ [])) (standing (drop (at + 1) items)),
    )
