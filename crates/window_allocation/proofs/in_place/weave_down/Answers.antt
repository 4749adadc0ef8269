use Rattle.std.proofs.Common.{◌≡◌, ◌≤◌, ◌<◌, ◌+◌, ◌++◌, ◌-◌, ℕ, Bool, List, length, take, drop, get_or, sym, ap, ◌∙◌, rules, arith}
use Rattle.std.specs.Prelude.{vec_len}
use Rattle.std.specs.List.{copy_within}
use Rattle.std.proofs.lemmas.List.{append_assoc}
use Rattle.greedy_rules.specs.declared.flows.Item.{Item}
use Rattle.slot_batches.specs.Woven.{places_from}
use Rattle.window_allocation.specs.Picked.{staying}
use Rattle.window_allocation.proofs.Places.{IsStep, last_step}
use Rattle.window_allocation.proofs.Down.{next_down, run_moved, woven_down, all_moved}
use Rattle.window_allocation.proofs.in_place.weave_down.Goals as goal

pub renew_item-kept-requires-clause-item : goal.renew_item-kept-requires-clause-item
renew_item-kept-requires-clause-item c =
    let was = c.loop-place in
    let old = c.args.list.now in
    let inside : was.from ≤ length old.items = omega (arith, was.invariant.within, was.invariant.same_length, old.ok.0) in
    let step = next_down c.requires.places.0 was.from was.place-index c.args.places.now old.items (drop was.at c.args.rest.now) inside c.loop-place-test.true (was.invariant.left c.requires.places.0 c.requires.places.1) in
    omega (arith, step.within, was.invariant.same_length, old.ok.0)

pub copy_within-requires-clause-start_le_end : goal.copy_within-requires-clause-start_le_end
copy_within-requires-clause-start_le_end c =
    let was = c.loop-place in
    let old = c.args.list.now in
    let inside : was.from ≤ length old.items = omega (arith, was.invariant.within, was.invariant.same_length, old.ok.0) in
    let step = next_down c.requires.places.0 was.from was.place-index c.args.places.now old.items (drop was.at c.args.rest.now) inside c.loop-place-test.true (was.invariant.left c.requires.places.0 c.requires.places.1) in
    omega (arith, step.above)

pub copy_within-requires-clause-in_bounds : goal.copy_within-requires-clause-in_bounds
copy_within-requires-clause-in_bounds c =
    let was = c.loop-place in
    let old = c.args.list.now in
    let inside : was.from ≤ length old.items = omega (arith, was.invariant.within, was.invariant.same_length, old.ok.0) in
    let step = next_down c.requires.places.0 was.from was.place-index c.args.places.now old.items (drop was.at c.args.rest.now) inside c.loop-place-test.true (was.invariant.left c.requires.places.0 c.requires.places.1) in
    omega (arith, step.within, was.invariant.same_length, old.ok.0, c.renew_item-kept.ensures.one, c.renew_item-kept.ensures.length)

pub copy_within-requires-clause-dest_in_bounds : goal.copy_within-requires-clause-dest_in_bounds
copy_within-requires-clause-dest_in_bounds c =
    let was = c.loop-place in
    let old = c.args.list.now in
    let inside : was.from ≤ length old.items = omega (arith, was.invariant.within, was.invariant.same_length, old.ok.0) in
    let step = next_down c.requires.places.0 was.from was.place-index c.args.places.now old.items (drop was.at c.args.rest.now) inside c.loop-place-test.true (was.invariant.left c.requires.places.0 c.requires.places.1) in
    let to : ℕ = get_or c.args.places.now was.place-index 0 in
    let fits : was.end + (to + c.renew_item-kept.result - was.from) ≤ vec_len c.renew_item-kept.new.list =
    omega (arith, step.above, step.within, was.invariant.moves_down, was.invariant.same_length, old.ok.0, c.renew_item-kept.ensures.one, c.renew_item-kept.ensures.length) in
    fits

pub overflow_sub-end : goal.overflow_sub-end
overflow_sub-end c =
    let was = c.loop-place in
    let old = c.args.list.now in
    let inside : was.from ≤ length old.items = omega (arith, was.invariant.within, was.invariant.same_length, old.ok.0) in
    let step = next_down c.requires.places.0 was.from was.place-index c.args.places.now old.items (drop was.at c.args.rest.now) inside c.loop-place-test.true (was.invariant.left c.requires.places.0 c.requires.places.1) in
    omega (arith, step.above)

pub overflow_add-from : goal.overflow_add-from
overflow_add-from c =
    let was = c.loop-place in
    let old = c.args.list.now in
    let inside : was.from ≤ length old.items = omega (arith, was.invariant.within, was.invariant.same_length, old.ok.0) in
    let step = next_down c.requires.places.0 was.from was.place-index c.args.places.now old.items (drop was.at c.args.rest.now) inside c.loop-place-test.true (was.invariant.left c.requires.places.0 c.requires.places.1) in
    let below : get_or c.args.places.now was.place-index 0 < vec_len was.list = omega (arith, step.within, was.invariant.same_length, old.ok.0) in
    search rules

pub loop-place-preserved : goal.loop-place-preserved
loop-place-preserved c =
    let was = c.loop-place in
    let old = c.args.list.now in
    let rest = c.args.rest.now in
    let renewed = c.renew_item-kept.new.list in
    let inside : was.from ≤ length old.items = omega (arith, was.invariant.within, was.invariant.same_length, old.ok.0) in
    let to : ℕ = get_or c.args.places.now was.place-index 0 in
    let kept : ℕ = c.renew_item-kept.result in
    let step : (aside : Item → Bool) → c.args.places.now ≡ places_from aside c.args.first (drop c.args.first old.items) → IsStep aside 0 was.from was.place-index to c.args.places.now old.items (drop was.at rest) =
    λ aside are. next_down aside was.from was.place-index c.args.places.now old.items (drop was.at rest) inside c.loop-place-test.true (was.invariant.left aside are) in
    let law = step c.requires.places.0 c.requires.places.1 in
    let run =
    run_moved old.items was.list.items renewed.items was.end was.from to kept (staying (drop to was.list.items) (drop was.at rest)) was.invariant.moves_down law.above
    (omega (arith, law.within, was.invariant.same_length, old.ok.0, was.list.ok.0)) (omega (arith, c.renew_item-kept.ensures.length, was.list.ok.0, renewed.ok.0)) c.renew_item-kept.ensures.one
    was.invariant.behind c.renew_item-kept.ensures.items c.renew_item-kept.ensures.behind in
    let n : ℕ = was.end + (to + kept - was.from) in
    record {
      moves_down = omega (arith, was.invariant.moves_down, law.above, c.renew_item-kept.ensures.one);
      within = omega (arith, law.within, was.invariant.same_length, old.ok.0, c.renew_item-kept.ensures.length, c.copy_within.ensures.len);
      rest_within = c.renew_item-kept.ensures.within;
      same_length = c.copy_within.ensures.len ∙ (c.renew_item-kept.ensures.length ∙ was.invariant.same_length);
      behind = ap (drop (to + 1)) c.copy_within.ensures.items ∙ run.1;
      left = λ aside are. (step aside are).left ∙ ap (λ (k : ℕ). places_from aside k (drop (to + 1) old.items)) (omega arith);
      woven = λ aside are.
          woven_down aside old.items was.list.items c.copy_within.new.self.items rest was.end was.from to was.at kept was.place-index c.args.places.now (step aside are) was.invariant.behind
          c.renew_item-kept.ensures.count (ap (take n) c.copy_within.ensures.items ∙ run.0)
          ∙ was.invariant.woven aside are;
      capacity = c.copy_within.ensures.capacity ∙ (c.renew_item-kept.ensures.capacity ∙ was.invariant.capacity);
    }

pub returns-clause-items : goal.returns-clause-items
returns-clause-items c = λ aside are.
    let was = c.loop-place in
    let old = c.args.list.now in
    let rest : List Item = drop was.at c.args.rest.now in
    let last : ℕ = c.len-last.result in
    let all : last ≡ length was.list.items = omega (arith, c.len-last.ensures, was.list.ok.0) in
    let ended : length c.args.places.now ≤ was.place-index = omega (arith, c.loop-place-test.false) in
    let moved_all = all_moved old.items was.list.items was.end was.from was.invariant.moves_down (omega (arith, was.invariant.within, was.list.ok.0)) was.invariant.behind in
    let here : was.from ≡ 0 + was.from = omega arith in
    let left : c.truncate.new.self.items ≡ take was.end was.list.items ++ drop was.from old.items =
    c.truncate.ensures.items
    ∙ (ap (take (was.end + (last - was.from))) c.copy_within-2.ensures.items ∙ (ap (λ (n : ℕ). take (was.end + (n - was.from)) (copy_within was.list.items was.from n was.end)) all ∙ moved_all)) in
    ap (λ (xs : List Item). xs ++ rest) left
    ∙ (append_assoc (take was.end was.list.items) (drop was.from old.items) rest
    ∙ (ap (λ (xs : List Item). take was.end was.list.items ++ xs) (sym (last_step aside 0 was.from was.place-index c.args.places.now old.items rest ended (was.invariant.left aside are ∙ ap (λ (k : ℕ). places_from aside k (drop was.from old.items)) here)))
    ∙ was.invariant.woven aside are))
