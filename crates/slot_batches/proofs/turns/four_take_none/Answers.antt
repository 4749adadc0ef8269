use Rattle.std.proofs.Common.{get_or}
use Rattle.std.proofs.lemmas.Bool.Decides.{Decides-eqb}
use Rattle.greedy_rules.specs.declared.flows.Item.{Item}
use Rattle.slot_batches.specs.Rests.{TakesNone}
use Rattle.slot_batches.proofs.DoubtLemmas.{four_none, needs_none, takes_none, all_four}
use Rattle.slot_batches.proofs.turns.four_take_none.Goals as goal

abbrev nothing : Item
nothing = record { flow = record { src = 0; dst = 0 }; need = 0; last = 0 }

pub returns-then-four-eq0 : goal.returns-then-four-eq0
returns-then-four-eq0 c = λ told.
    let four = c.args.four.now in
    let maps = c.args.filling.now.maps in
    let none = four_none (get_or four 0 nothing).need (get_or four 1 nothing).need (get_or four 2 nothing).need (get_or four 3 nothing).need c.if-four-eq0.true in
    all_four (TakesNone maps) four nothing c.requires.four (needs_none maps (get_or four 0 nothing) none.0) (needs_none maps (get_or four 1 nothing) none.1)
    (needs_none maps (get_or four 2 nothing) none.2) (needs_none maps (get_or four 3 nothing) none.3)

pub returns : goal.returns
returns c = λ told.
    let none = four_none c.wanted-first.result c.wanted-second.result c.wanted-third.result c.wanted-fourth.result ((Decides-eqb _ 0).0 told) in
    let four = c.args.four.now in
    let maps = c.args.filling.now.maps in
    all_four (TakesNone maps) four nothing c.requires.four
    (takes_none maps (get_or four 0 nothing) (c.wanted-first.ensures none.0)) (takes_none maps (get_or four 1 nothing) (c.wanted-second.ensures none.1))
    (takes_none maps (get_or four 2 nothing) (c.wanted-third.ensures none.2)) (takes_none maps (get_or four 3 nothing) (c.wanted-fourth.ensures none.3))
