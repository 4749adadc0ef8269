use Rattle.std.proofs.Common.{◌≡◌, ◌≤◌, ◌<◌, ◌+◌, ◌++◌, ◌-◌, ℕ, Bool, List, length, take, drop, get_or, sym, ap, ◌∙◌, rules, arith}
use Rattle.std.specs.Prelude.{vec_len, vec_capacity}
use Rattle.std.proofs.lemmas.Bool.{cond-true}
use Rattle.std.proofs.lemmas.List.{append_assoc, drop-drop, length-append, length-drop, length-take-le, take_rest}
use Rattle.greedy_rules.specs.declared.flows.Item.{Item}
use Rattle.slot_batches.specs.Woven.{weave, places_from}
use Rattle.window_allocation.specs.Picked.{staying}
use Rattle.window_allocation.proofs.Places.{IsStep, next_step, last_step}
use Rattle.window_allocation.proofs.weave.weave_part.Goals as goal

pub overflow_sub-to : goal.overflow_sub-to
overflow_sub-to c =
    let was = c.loop-place in
    (next_step c.requires.room.0 c.args.first was.from was.place-index c.args.places.now c.args.list.now (drop was.at c.args.rest.now) was.invariant.within c.loop-place-test.true (was.invariant.left c.requires.room.0 c.requires.room.1)).0

pub weave_run-at-requires-clause-run : goal.weave_run-at-requires-clause-run
weave_run-at-requires-clause-run c =
    let was = c.loop-place in
    (next_step c.requires.room.0 c.args.first was.from was.place-index c.args.places.now c.args.list.now (drop was.at c.args.rest.now) was.invariant.within c.loop-place-test.true (was.invariant.left c.requires.room.0 c.requires.room.1)).1.above

pub weave_run-at-requires-clause-item : goal.weave_run-at-requires-clause-item
weave_run-at-requires-clause-item c =
    let was = c.loop-place in
    (next_step c.requires.room.0 c.args.first was.from was.place-index c.args.places.now c.args.list.now (drop was.at c.args.rest.now) was.invariant.within c.loop-place-test.true (was.invariant.left c.requires.room.0 c.requires.room.1)).1.within

pub weave_run-at-requires-clause-room : goal.weave_run-at-requires-clause-room
weave_run-at-requires-clause-room c =
    let aside = c.requires.room.0 in
    let was = c.loop-place in
    let list = c.args.list.now in
    let rest : List Item = drop was.at c.args.rest.now in
    let to : ℕ = get_or c.args.places.now was.place-index 0 - c.args.first in
    let step = (next_step aside c.args.first was.from was.place-index c.args.places.now list rest was.invariant.within c.loop-place-test.true (was.invariant.left aside c.requires.room.1)).1 in
    let run : List Item = take (to - was.from) (drop was.from list) in
    let stays : List Item = staying (drop to list) rest in
    let then : List Item = weave aside (drop (to + 1) list) (drop (length stays) rest) in
    omega (
      arith,
      c.requires.room.2,
      ap length (was.invariant.woven aside c.requires.room.1),
      ap length step.woven,
      step.within,
      step.above,
      length-append was.whole.items (weave aside (drop was.from list) rest),
      length-append c.args.whole.now.items (weave aside list c.args.rest.now),
      length-append (run ++ stays) then,
      length-append run stays,
      length-take-le (to - was.from) (drop was.from list) (omega (arith, length-drop was.from list, step.within)),
      was.invariant.capacity,
      was.whole.ok.0,
      c.args.whole.now.ok.0,
    )

pub overflow_add-from : goal.overflow_add-from
overflow_add-from c =
    let was = c.loop-place in
    let step = (next_step c.requires.room.0 c.args.first was.from was.place-index c.args.places.now c.args.list.now (drop was.at c.args.rest.now) was.invariant.within c.loop-place-test.true (was.invariant.left c.requires.room.0 c.requires.room.1)).1 in
    let inside : get_or c.args.places.now was.place-index 0 - c.args.first < length c.args.list.now = step.within in
    search rules

pub loop-place-preserved : goal.loop-place-preserved
loop-place-preserved c =
    let was = c.loop-place in
    let list = c.args.list.now in
    let rest : List Item = drop was.at c.args.rest.now in
    let to : ℕ = get_or c.args.places.now was.place-index 0 - c.args.first in
    let step : (aside : Item → Bool) → c.args.places.now ≡ places_from aside c.args.first list → IsStep aside c.args.first was.from was.place-index to c.args.places.now list rest =
    λ aside are. (next_step aside c.args.first was.from was.place-index c.args.places.now list rest was.invariant.within c.loop-place-test.true (was.invariant.left aside are)).1 in
    let run : List Item = take (to - was.from) (drop was.from list) in
    let stays : List Item = staying (drop to list) rest in
    record {
      within = omega (arith, (step c.requires.room.0 c.requires.room.1).within);
      rest_within = c.weave_run-at.ensures.within;
      left = λ aside are. (step aside are).left;
      woven = λ aside are.
          let then : List Item → List Item = weave aside (drop (to + 1) list) in
          ap (λ (n : ℕ). c.weave_run-at.new.whole.items ++ then (drop n c.args.rest.now)) c.weave_run-at.ensures.rest
          ∙ (ap (λ (xs : List Item). c.weave_run-at.new.whole.items ++ then xs) (sym (drop-drop (length stays) was.at c.args.rest.now))
          ∙ (ap (λ (xs : List Item). xs ++ then (drop (length stays) rest)) c.weave_run-at.ensures.items
          ∙ (append_assoc was.whole.items (run ++ stays) (then (drop (length stays) rest))
          ∙ (ap (λ (xs : List Item). was.whole.items ++ xs) (sym (step aside are).woven) ∙ was.invariant.woven aside are))));
      capacity = omega (arith, c.weave_run-at.ensures.capacity, was.invariant.capacity);
    }

pub returns-clause-items : goal.returns-clause-items
returns-clause-items c = λ aside are.
    let was = c.loop-place in
    let now = c.extend_from_slice.new.self in
    let list : List Item = drop was.from c.args.list.now in
    let rest : List Item = drop was.at c.args.rest.now in
    let ended : length c.args.places.now ≤ was.place-index = omega (arith, c.loop-place-test.false) in
    let all_list : take (length c.args.list.now - was.from) list ≡ list = take_rest c.args.list.now was.from in
    let all_rest : take (length c.args.rest.now - was.at) rest ≡ rest = take_rest c.args.rest.now was.at in
    let end : was.whole.items ++ (list ++ rest) ≡ c.args.whole.now.items ++ weave aside c.args.list.now c.args.rest.now =
    ap (λ (xs : List Item). was.whole.items ++ xs) (sym (last_step aside c.args.first was.from was.place-index c.args.places.now c.args.list.now rest ended (was.invariant.left aside are))) ∙ was.invariant.woven aside are in
    let law = c.requires.room.0 in
    let end_law : was.whole.items ++ (list ++ rest) ≡ c.args.whole.now.items ++ weave law c.args.list.now c.args.rest.now =
    ap (λ (xs : List Item). was.whole.items ++ xs) (sym (last_step law c.args.first was.from was.place-index c.args.places.now c.args.list.now rest ended (was.invariant.left law c.requires.room.1)))
    ∙ was.invariant.woven law c.requires.room.1 in
    let room : vec_len was.whole + (length list + length rest) ≤ vec_capacity was.whole =
    omega (
      arith,
      c.requires.room.2,
      ap length end_law,
      length-append was.whole.items (list ++ rest),
      length-append list rest,
      length-append c.args.whole.now.items (weave law c.args.list.now c.args.rest.now),
      was.invariant.capacity,
      was.whole.ok.0,
      c.args.whole.now.ok.0,
    ) in
    let first : now.items ≡ was.whole.items ++ list =
    c.extend_from_slice.ensures.items
    ∙ (cond-true _ (was.whole.items ++ take (length c.args.list.now - was.from) list) was.whole.items (c.extend_from_slice.ensures.succeeds (omega (arith, room, ap length all_list))) ∙ ap (λ (xs : List Item). was.whole.items ++ xs) all_list) in
    let fits : vec_len now + length (take (length c.args.rest.now - was.at) rest) ≤ vec_capacity now =
    omega (arith, room, ap length all_rest, ap length first, length-append was.whole.items list, c.extend_from_slice.ensures.capacity, now.ok.0, was.whole.ok.0) in
    c.extend_from_slice-2.ensures.items
    ∙ (cond-true _ (now.items ++ take (length c.args.rest.now - was.at) rest) now.items (c.extend_from_slice-2.ensures.succeeds fits)
    ∙ (ap (λ (xs : List Item). now.items ++ xs) all_rest ∙ (ap (λ (xs : List Item). xs ++ rest) first ∙ (append_assoc was.whole.items list rest ∙ end))))
