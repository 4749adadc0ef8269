use Rattle.std.proofs.Common.{◌≡◌, false, take, get_or, All, sym, subst}
use Rattle.std.proofs.lemmas.List.{take_more}
use Rattle.std.proofs.lemmas.List.Elements.{All-push}
use Rattle.greedy_rules.specs.declared.flows.Item.{Item}
use Rattle.slot_batches.specs.Marks.{has_mark}
use Rattle.window_allocation.proofs.guess.count_beyond.Goals as goal

abbrev nothing : Item
nothing = record { flow = record { src = 0; dst = 0 }; need = 0; last = 0 }

pub loop-at-preserved : goal.loop-at-preserved
loop-at-preserved c =
    let items = c.args.items.now in
    let at = c.loop-at.at in
    let P : Item → Type 0 = λ item. has_mark c.args.marks.now item.flow ≡ false in
    subst (All P) (sym (take_more items at nothing c.loop-at-test.true)) (All-push P (take at items) (get_or items at nothing) c.loop-at.invariant (c.may_reach.ensures c.if-may_reach.false))
