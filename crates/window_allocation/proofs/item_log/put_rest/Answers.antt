use Rattle.std.proofs.Common.{◌≡◌, ◌++◌, ℕ, List, length, take, drop, All, sym, ap, ◌∙◌, subst, arith}
use Rattle.std.proofs.lemmas.List.{length-append, length-drop, take_rest}
use Rattle.std.proofs.lemmas.List.Elements.{filter-append}
use Rattle.greedy_rules.specs.declared.flows.Item.{Item}
use Rattle.greedy_rules.specs.Demands.{HasEachFlowOnce, AreBelow}
use Rattle.slot_batches.specs.Woven.{weave, places_from}
use Rattle.window_allocation.specs.Logged.{standing, items_at, is_passed, AreNew, ArePlaced, NeedsHaveBits}
use Rattle.window_allocation.proofs.LogWeaving.{IsWoven, is_woven, written, new_behind, stands, Other}
use Rattle.window_allocation.proofs.item_log.put_rest.Goals as goal

pub put_back-behind-requires-clause-places : goal.put_back-behind-requires-clause-places
put_back-behind-requires-clause-places c =
    let chosen : List Item = items_at c.args.items.now.items c.args.places.now in
    (is_passed chosen, c.requires.picked ∙ ap (places_from (is_passed chosen) 0) (sym c.deref_mut.ensures.value))

pub make_room-requires-clause-once : goal.make_room-requires-clause-once
make_room-requires-clause-once c =
    let rest = c.args.rest.now in
    let old = c.args.items.now in
    let behind : ℕ = c.put_back-behind.result in
    let now = c.put_back-behind.new.items in
    let chosen : List Item = items_at old.items c.args.places.now in
    let put : standing (now ++ drop behind rest) ≡ standing (weave (is_passed chosen) old.items rest) =
    c.put_back-behind.ensures.items (is_passed chosen) (c.requires.picked ∙ ap (places_from (is_passed chosen) 0) (sym c.deref_mut.ensures.value))
    ∙ ap (λ (xs : List Item). standing (weave (is_passed chosen) xs rest)) c.deref_mut.ensures.value in
    let woven : IsWoven c.args.endpoints chosen old.items now (drop behind rest) rest = is_woven c.args.endpoints chosen old.items now rest behind c.requires.few c.requires.once c.requires.below put in
    let now_is : take old.len (now ++ drop (length now) old.items) ≡ now = written now old.items old.len (c.put_back-behind.ensures.length ∙ c.deref_mut.ensures.len) in
    subst (λ (xs : List Item). HasEachFlowOnce (standing xs)) (sym now_is) woven.once

pub make_room-requires-clause-below : goal.make_room-requires-clause-below
make_room-requires-clause-below c =
    let rest = c.args.rest.now in
    let old = c.args.items.now in
    let behind : ℕ = c.put_back-behind.result in
    let now = c.put_back-behind.new.items in
    let chosen : List Item = items_at old.items c.args.places.now in
    let put : standing (now ++ drop behind rest) ≡ standing (weave (is_passed chosen) old.items rest) =
    c.put_back-behind.ensures.items (is_passed chosen) (c.requires.picked ∙ ap (places_from (is_passed chosen) 0) (sym c.deref_mut.ensures.value))
    ∙ ap (λ (xs : List Item). standing (weave (is_passed chosen) xs rest)) c.deref_mut.ensures.value in
    let woven : IsWoven c.args.endpoints chosen old.items now (drop behind rest) rest = is_woven c.args.endpoints chosen old.items now rest behind c.requires.few c.requires.once c.requires.below put in
    let now_is : take old.len (now ++ drop (length now) old.items) ≡ now = written now old.items old.len (c.put_back-behind.ensures.length ∙ c.deref_mut.ensures.len) in
    subst (λ (xs : List Item). AreBelow c.args.endpoints (standing xs)) (sym now_is) woven.below

pub make_room-requires-clause-most : goal.make_room-requires-clause-most
make_room-requires-clause-most c =
    let rest = c.args.rest.now in
    let old = c.args.items.now in
    let behind : ℕ = c.put_back-behind.result in
    let now = c.put_back-behind.new.items in
    let chosen : List Item = items_at old.items c.args.places.now in
    let put : standing (now ++ drop behind rest) ≡ standing (weave (is_passed chosen) old.items rest) =
    c.put_back-behind.ensures.items (is_passed chosen) (c.requires.picked ∙ ap (places_from (is_passed chosen) 0) (sym c.deref_mut.ensures.value))
    ∙ ap (λ (xs : List Item). standing (weave (is_passed chosen) xs rest)) c.deref_mut.ensures.value in
    let woven : IsWoven c.args.endpoints chosen old.items now (drop behind rest) rest = is_woven c.args.endpoints chosen old.items now rest behind c.requires.few c.requires.once c.requires.below put in
    let now_is : take old.len (now ++ drop (length now) old.items) ≡ now = written now old.items old.len (c.put_back-behind.ensures.length ∙ c.deref_mut.ensures.len) in
    omega (arith, ap length woven.parts, ap (λ (xs : List Item). length (standing xs)) now_is, length-append (standing now) (drop behind rest), length-drop behind rest, c.requires.most)

pub make_room-requires-clause-placed : goal.make_room-requires-clause-placed
make_room-requires-clause-placed c =
    let rest = c.args.rest.now in
    let old = c.args.items.now in
    let behind : ℕ = c.put_back-behind.result in
    let now = c.put_back-behind.new.items in
    let chosen : List Item = items_at old.items c.args.places.now in
    let put : standing (now ++ drop behind rest) ≡ standing (weave (is_passed chosen) old.items rest) =
    c.put_back-behind.ensures.items (is_passed chosen) (c.requires.picked ∙ ap (places_from (is_passed chosen) 0) (sym c.deref_mut.ensures.value))
    ∙ ap (λ (xs : List Item). standing (weave (is_passed chosen) xs rest)) c.deref_mut.ensures.value in
    let woven : IsWoven c.args.endpoints chosen old.items now (drop behind rest) rest = is_woven c.args.endpoints chosen old.items now rest behind c.requires.few c.requires.once c.requires.below put in
    let now_is : take old.len (now ++ drop (length now) old.items) ≡ now = written now old.items old.len (c.put_back-behind.ensures.length ∙ c.deref_mut.ensures.len) in
    subst (ArePlaced c.args.endpoints c.args.at.now) (sym now_is) (c.put_back-behind.ensures.placed c.args.endpoints c.args.at.now (subst (ArePlaced c.args.endpoints c.args.at.now) (sym c.deref_mut.ensures.value) c.requires.placed))

pub make_room-requires-clause-bits : goal.make_room-requires-clause-bits
make_room-requires-clause-bits c =
    let rest = c.args.rest.now in
    let old = c.args.items.now in
    let behind : ℕ = c.put_back-behind.result in
    let now = c.put_back-behind.new.items in
    let chosen : List Item = items_at old.items c.args.places.now in
    let put : standing (now ++ drop behind rest) ≡ standing (weave (is_passed chosen) old.items rest) =
    c.put_back-behind.ensures.items (is_passed chosen) (c.requires.picked ∙ ap (places_from (is_passed chosen) 0) (sym c.deref_mut.ensures.value))
    ∙ ap (λ (xs : List Item). standing (weave (is_passed chosen) xs rest)) c.deref_mut.ensures.value in
    let woven : IsWoven c.args.endpoints chosen old.items now (drop behind rest) rest = is_woven c.args.endpoints chosen old.items now rest behind c.requires.few c.requires.once c.requires.below put in
    let now_is : take old.len (now ++ drop (length now) old.items) ≡ now = written now old.items old.len (c.put_back-behind.ensures.length ∙ c.deref_mut.ensures.len) in
    subst (NeedsHaveBits c.put_back-behind.new.words) (sym now_is) (c.put_back-behind.ensures.bits (subst (NeedsHaveBits c.args.words.now) (sym c.deref_mut.ensures.value) c.requires.bits))

pub append_items-requires-clause-once : goal.append_items-requires-clause-once
append_items-requires-clause-once c =
    let rest = c.args.rest.now in
    let old = c.args.items.now in
    let behind : ℕ = c.put_back-behind.result in
    let now = c.put_back-behind.new.items in
    let chosen : List Item = items_at old.items c.args.places.now in
    let put : standing (now ++ drop behind rest) ≡ standing (weave (is_passed chosen) old.items rest) =
    c.put_back-behind.ensures.items (is_passed chosen) (c.requires.picked ∙ ap (places_from (is_passed chosen) 0) (sym c.deref_mut.ensures.value))
    ∙ ap (λ (xs : List Item). standing (weave (is_passed chosen) xs rest)) c.deref_mut.ensures.value in
    let woven : IsWoven c.args.endpoints chosen old.items now (drop behind rest) rest = is_woven c.args.endpoints chosen old.items now rest behind c.requires.few c.requires.once c.requires.below put in
    let now_is : take old.len (now ++ drop (length now) old.items) ≡ now = written now old.items old.len (c.put_back-behind.ensures.length ∙ c.deref_mut.ensures.len) in
    subst HasEachFlowOnce (sym (take_rest rest behind)) woven.once_behind

pub append_items-requires-clause-below : goal.append_items-requires-clause-below
append_items-requires-clause-below c =
    let rest = c.args.rest.now in
    let old = c.args.items.now in
    let behind : ℕ = c.put_back-behind.result in
    let now = c.put_back-behind.new.items in
    let chosen : List Item = items_at old.items c.args.places.now in
    let put : standing (now ++ drop behind rest) ≡ standing (weave (is_passed chosen) old.items rest) =
    c.put_back-behind.ensures.items (is_passed chosen) (c.requires.picked ∙ ap (places_from (is_passed chosen) 0) (sym c.deref_mut.ensures.value))
    ∙ ap (λ (xs : List Item). standing (weave (is_passed chosen) xs rest)) c.deref_mut.ensures.value in
    let woven : IsWoven c.args.endpoints chosen old.items now (drop behind rest) rest = is_woven c.args.endpoints chosen old.items now rest behind c.requires.few c.requires.once c.requires.below put in
    let now_is : take old.len (now ++ drop (length now) old.items) ≡ now = written now old.items old.len (c.put_back-behind.ensures.length ∙ c.deref_mut.ensures.len) in
    subst (AreBelow c.args.endpoints) (sym (take_rest rest behind)) woven.below_behind

pub append_items-requires-clause-new : goal.append_items-requires-clause-new
append_items-requires-clause-new c =
    let rest = c.args.rest.now in
    let old = c.args.items.now in
    let behind : ℕ = c.put_back-behind.result in
    let now = c.put_back-behind.new.items in
    let chosen : List Item = items_at old.items c.args.places.now in
    let put : standing (now ++ drop behind rest) ≡ standing (weave (is_passed chosen) old.items rest) =
    c.put_back-behind.ensures.items (is_passed chosen) (c.requires.picked ∙ ap (places_from (is_passed chosen) 0) (sym c.deref_mut.ensures.value))
    ∙ ap (λ (xs : List Item). standing (weave (is_passed chosen) xs rest)) c.deref_mut.ensures.value in
    let woven : IsWoven c.args.endpoints chosen old.items now (drop behind rest) rest = is_woven c.args.endpoints chosen old.items now rest behind c.requires.few c.requires.once c.requires.below put in
    let now_is : take old.len (now ++ drop (length now) old.items) ≡ now = written now old.items old.len (c.put_back-behind.ensures.length ∙ c.deref_mut.ensures.len) in
    subst (AreNew c.make_room.new.items.items) (sym (take_rest rest behind))
    (new_behind c.make_room.new.items.items (drop behind rest) (subst (All (λ x. All (Other x) (drop behind rest))) (sym (c.make_room.ensures.items ∙ ap standing now_is)) woven.apart))

pub returns-clause-items : goal.returns-clause-items
returns-clause-items c =
    let rest = c.args.rest.now in
    let old = c.args.items.now in
    let behind : ℕ = c.put_back-behind.result in
    let now = c.put_back-behind.new.items in
    let chosen : List Item = items_at old.items c.args.places.now in
    let put : standing (now ++ drop behind rest) ≡ standing (weave (is_passed chosen) old.items rest) =
    c.put_back-behind.ensures.items (is_passed chosen) (c.requires.picked ∙ ap (places_from (is_passed chosen) 0) (sym c.deref_mut.ensures.value))
    ∙ ap (λ (xs : List Item). standing (weave (is_passed chosen) xs rest)) c.deref_mut.ensures.value in
    let woven : IsWoven c.args.endpoints chosen old.items now (drop behind rest) rest = is_woven c.args.endpoints chosen old.items now rest behind c.requires.few c.requires.once c.requires.below put in
    let now_is : take old.len (now ++ drop (length now) old.items) ≡ now = written now old.items old.len (c.put_back-behind.ensures.length ∙ c.deref_mut.ensures.len) in
    let then = c.make_room.new.items.items in
    ap standing (c.append_items.ensures.items ∙ ap (λ (xs : List Item). then ++ xs) (take_rest rest behind))
    ∙ (filter-append stands then (drop behind rest)
    ∙ (ap (λ (xs : List Item). xs ++ standing (drop behind rest)) (c.make_room.ensures.items ∙ ap standing now_is) ∙ (ap (λ (xs : List Item). standing now ++ xs) woven.stands_behind ∙ woven.parts)))
