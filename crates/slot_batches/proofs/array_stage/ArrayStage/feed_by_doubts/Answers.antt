use Rattle.std.proofs.Common.{◌≡◌, ◌<◌, ◌++◌, Vec, Global, List, false, take, refl, sym, ap, ◌∙◌, subst}
use Rattle.list_facts.proofs.Lists.{all_back}
use Rattle.greedy_rules.specs.declared.flows.Item.{Item}
use Rattle.greedy_rules.specs.Demands.{AreBelow}
use Rattle.slot_batches.specs.Parts.{fill_of, with_waiting}
use Rattle.slot_batches.specs.Doubts.{left_of}
use Rattle.slot_batches.specs.Feeding.{taken_up}
use Rattle.slot_batches.specs.Filled.{HasTakenUp}
use Rattle.slot_batches.specs.ArrayStands.{ArrayState, HasBeenFed, MayBeFed, array_endpoints, array_first}
use Rattle.slot_batches.proofs.RestLemmas.{room_for_left}
use Rattle.slot_batches.proofs.StandsLemmas.{stands_for_run}
use Rattle.slot_batches.proofs.array_stage.ArrayStage.feed_by_doubts.Goals as goal

pub doubts-doubted-requires-clause-below : goal.doubts-doubted-requires-clause-below
doubts-doubted-requires-clause-below c =
    let items = c.args.items.now in
    let inside = c.self.inside in
    let below : AreBelow inside.filling.endpoints items =
    subst (λ (s : ArrayState). AreBelow (array_endpoints s) items) (sym c.self.view_is)
    (all_back (λ item. (item.flow.src < array_endpoints c.args.self.now) × (item.flow.dst < array_endpoints c.args.self.now)) c.requires.may.0 items c.requires.may.3.in_range) in
    subst (λ n. AreBelow n items) (sym c.self.invariant.room.maps) below

pub append_items-requires : goal.append_items-requires
append_items-requires c =
    let batch = c.args.batch.now in
    let items = c.args.items.now in
    let fed = c.requires.may.0 in
    let inside = c.self.inside in
    let old = fill_of inside.filling in
    let new = c.serve_doubted-served.new.filling in
    let left = take c.close_up-left.result c.close_up-left.new.items in
    let none_left : inside.unopened ≡ 0 = ap (λ (s : ArrayState). s.unopened) c.self.view_is ∙ c.requires.opened in
    let so_far : HasBeenFed batch fed old 0 =
    subst (HasBeenFed batch fed old) none_left (subst (λ (s : ArrayState). HasBeenFed batch fed s.fill s.unopened) (sym c.self.view_is) (c.requires.may.2.feeding refl)) in
    let may : MayBeFed batch.entries old.endpoints old.first_slot (fed ++ items) =
    subst (λ (s : ArrayState). MayBeFed batch.entries (array_endpoints s) (array_first s) (fed ++ items)) (sym c.self.view_is) c.requires.may.3 in
    let taken : HasTakenUp (taken_up batch.entries (fed ++ items) false) (with_waiting (new.waiting.items ++ left) (fill_of new)) =
    subst (λ (xs : List Item). HasTakenUp (taken_up batch.entries (fed ++ items) false) (with_waiting (new.waiting.items ++ xs) (fill_of new))) (sym c.close_up-left.ensures.left)
    (subst (λ (v : Vec Item Global). HasTakenUp (taken_up batch.entries (fed ++ items) false) (with_waiting (v.items ++ left_of c.serve_doubted-served.result 0 c.serve_doubted-served.new.items) (fill_of new)))
    (sym c.serve_doubted-served.ensures.waiting) (c.serve_doubted-served.ensures.fed fed so_far may).taken) in
    room_for_left (taken_up batch.entries (fed ++ items) false) left new c.serve_doubted-served.ensures.room taken

pub returns-clause-stands : goal.returns-clause-stands
returns-clause-stands c = λ fed given stands may_now.
    let batch = c.args.batch.now in
    let items = c.args.items.now in
    let inside = c.self.inside in
    let view_is = c.self.view_is in
    let old = fill_of inside.filling in
    let new = c.serve_doubted-served.new.filling in
    let left = take c.close_up-left.result c.close_up-left.new.items in
    let none_left : inside.unopened ≡ 0 = ap (λ (s : ArrayState). s.unopened) view_is ∙ c.requires.opened in
    let so_far : HasBeenFed batch fed old 0 = subst (HasBeenFed batch fed old) none_left (subst (λ (s : ArrayState). HasBeenFed batch fed s.fill s.unopened) (sym view_is) (stands.feeding refl)) in
    let may : MayBeFed batch.entries old.endpoints old.first_slot (fed ++ items) =
    subst (λ (s : ArrayState). MayBeFed batch.entries (array_endpoints s) (array_first s) (fed ++ items)) (sym view_is) may_now in
    let before : inside.filling.waiting.items ++ left_of c.serve_doubted-served.result 0 c.serve_doubted-served.new.items ≡ inside.filling.waiting.items ++ left =
    ap (λ (xs : List Item). inside.filling.waiting.items ++ xs) (sym c.close_up-left.ensures.left) in
    let waits : c.append_items.new.waiting.items ≡ inside.filling.waiting.items ++ left =
    c.append_items.ensures.items ∙ ap (λ (v : Vec Item Global). v.items ++ left) c.serve_doubted-served.ensures.waiting in
    let now : HasBeenFed batch (fed ++ items) (with_waiting c.append_items.new.waiting.items (fill_of new)) inside.unopened =
    subst (HasBeenFed batch (fed ++ items) (with_waiting c.append_items.new.waiting.items (fill_of new))) (sym none_left)
    (subst (λ (xs : List Item). HasBeenFed batch (fed ++ items) (with_waiting xs (fill_of new)) 0) (before ∙ sym waits) (c.serve_doubted-served.ensures.fed fed so_far may)) in
    stands_for_run batch fed items left given c.args.self.now _ stands now (waits ∙ ap (λ (s : ArrayState). s.fill.waiting ++ left) view_is)
    (ap (λ (s : ArrayState). s.marks) view_is) (ap (λ (s : ArrayState). s.given) view_is) (ap (λ (s : ArrayState). s.ends) view_is)
