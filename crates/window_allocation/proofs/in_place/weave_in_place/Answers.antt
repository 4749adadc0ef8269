use Rattle.std.proofs.Common.{◌≡◌, ◌≤◌, ◌-◌, ◌++◌, ℕ, List, length, take, drop, sym, ap, ◌∙◌, subst, arith}
use Rattle.std.specs.List.Sorted.{IsNonDecreasingBy}
use Rattle.std.proofs.lemmas.List.{length-append, take_rest}
use Rattle.greedy_rules.specs.declared.flows.Item.{Item}
use Rattle.slot_batches.specs.Woven.{weave, never_served, once_served, places_from}
use Rattle.window_allocation.proofs.Places.{places_rise, parts_placed, parts_woven}
use Rattle.window_allocation.proofs.Down.{put_over, woven_in_place}
use Rattle.window_allocation.proofs.in_place.weave_in_place.Goals as goal

pub places_below-places_served-requires : goal.places_below-places_served-requires
places_below-places_served-requires c = subst (IsNonDecreasingBy (λ place. place)) (sym c.requires.room.1) (places_rise c.requires.room.0 0 c.args.list.now.items)

pub weave_part-requires : goal.weave_part-requires
weave_part-requires c =
    let aside = c.requires.room.0 in
    let list = c.args.list.now.items in
    let rest = c.args.rest.now in
    let served : ℕ = c.first_served-served.result in
    let rest_served : ℕ = c.first_served-rest_served.result in
    let within : served ≤ length list = subst (λ (xs : List Item). served ≤ length xs) c.deref.ensures.value c.first_served-served.ensures.within in
    let never : take served list ≡ never_served list = subst (λ (xs : List Item). take served xs ≡ never_served xs) c.deref.ensures.value c.first_served-served.ensures.never in
    let once : drop served list ≡ once_served list = subst (λ (xs : List Item). drop served xs ≡ once_served xs) c.deref.ensures.value c.first_served-served.ensures.once in
    let first : List Item = weave aside (take served list) (take rest_served rest) in
    let second : List Item = weave aside (take (length list - served) (drop served list)) (take (length rest - rest_served) (drop rest_served rest)) in
    let placed = parts_placed aside served c.places_below-places_served.result list c.args.places.now within c.places_below-places_served.ensures.within c.requires.room.1 c.places_below-places_served.ensures.point in
    let both = parts_woven aside served rest_served list rest never once c.first_served-rest_served.ensures.never c.first_served-rest_served.ensures.once in
    let same = c.deref-2.ensures.value in
    record {
      room = (
        aside,
        placed.0 ∙ ap (λ (xs : List Item). places_from aside 0 (take served xs)) (sym same),
        omega (
          arith,
          c.requires.room.2,
          ap length both,
          length-append first second,
          ap length (ap (λ (xs : List Item). weave aside (take served xs) (take rest_served rest)) same),
          c.clear.ensures.len,
          c.clear.ensures.capacity,
        ),
      );
    }

pub weave_down-at-requires-clause-places : goal.weave_down-at-requires-clause-places
weave_down-at-requires-clause-places c =
    let aside = c.requires.room.0 in
    let list = c.args.list.now.items in
    let rest = c.args.rest.now in
    let served : ℕ = c.first_served-served.result in
    let rest_served : ℕ = c.first_served-rest_served.result in
    let within : served ≤ length list = subst (λ (xs : List Item). served ≤ length xs) c.deref.ensures.value c.first_served-served.ensures.within in
    let never : take served list ≡ never_served list = subst (λ (xs : List Item). take served xs ≡ never_served xs) c.deref.ensures.value c.first_served-served.ensures.never in
    let once : drop served list ≡ once_served list = subst (λ (xs : List Item). drop served xs ≡ once_served xs) c.deref.ensures.value c.first_served-served.ensures.once in
    let first : List Item = weave aside (take served list) (take rest_served rest) in
    let second : List Item = weave aside (take (length list - served) (drop served list)) (take (length rest - rest_served) (drop rest_served rest)) in
    let placed = parts_placed aside served c.places_below-places_served.result list c.args.places.now within c.places_below-places_served.ensures.within c.requires.room.1 c.places_below-places_served.ensures.point in
    let both = parts_woven aside served rest_served list rest never once c.first_served-rest_served.ensures.never c.first_served-rest_served.ensures.once in
    let part : take c.places_below-places_served.result c.args.places.now ≡ places_from aside 0 (take served c.deref-2.result.now) = placed.0 ∙ ap (λ (xs : List Item). places_from aside 0 (take served xs)) (sym c.deref-2.ensures.value) in
    let whole : c.weave_part.new.whole.items ≡ first =
    c.weave_part.ensures.items aside part
    ∙ (ap (λ (xs : List Item). xs ++ weave aside (take served c.deref-2.result.now) (take rest_served rest)) c.clear.ensures.items ∙ ap (λ (xs : List Item). weave aside (take served xs) (take rest_served rest)) c.deref-2.ensures.value) in
    let put : c.put_front.new.list.items ≡ first ++ drop (length first) list = c.put_front.ensures.items ∙ ap (λ (xs : List Item). xs ++ drop (length xs) list) (c.deref-3.ensures.value ∙ whole) in
    let long : length first ≡ c.len-front.result = omega (arith, ap length whole, c.len-front.ensures, c.weave_part.new.whole.ok.0) in
    let below : c.len-front.result ≤ served = omega (arith, c.if-front-served.false) in (
      aside,
      placed.1 ∙ ap (places_from aside served) (take_rest list served ∙ sym (put_over list c.put_front.new.list.items first served put (omega (arith, long, below)))),
    )

pub returns-clause-items : goal.returns-clause-items
returns-clause-items c = λ aside are.
    let list = c.args.list.now.items in
    let rest = c.args.rest.now in
    let served : ℕ = c.first_served-served.result in
    let rest_served : ℕ = c.first_served-rest_served.result in
    let within : served ≤ length list = subst (λ (xs : List Item). served ≤ length xs) c.deref.ensures.value c.first_served-served.ensures.within in
    let never : take served list ≡ never_served list = subst (λ (xs : List Item). take served xs ≡ never_served xs) c.deref.ensures.value c.first_served-served.ensures.never in
    let once : drop served list ≡ once_served list = subst (λ (xs : List Item). drop served xs ≡ once_served xs) c.deref.ensures.value c.first_served-served.ensures.once in
    let first : List Item = weave aside (take served list) (take rest_served rest) in
    let second : List Item = weave aside (take (length list - served) (drop served list)) (take (length rest - rest_served) (drop rest_served rest)) in
    let placed = parts_placed aside served c.places_below-places_served.result list c.args.places.now within c.places_below-places_served.ensures.within are c.places_below-places_served.ensures.point in
    let both = parts_woven aside served rest_served list rest never once c.first_served-rest_served.ensures.never c.first_served-rest_served.ensures.once in
    let part : take c.places_below-places_served.result c.args.places.now ≡ places_from aside 0 (take served c.deref-2.result.now) = placed.0 ∙ ap (λ (xs : List Item). places_from aside 0 (take served xs)) (sym c.deref-2.ensures.value) in
    let whole : c.weave_part.new.whole.items ≡ first =
    c.weave_part.ensures.items aside part
    ∙ (ap (λ (xs : List Item). xs ++ weave aside (take served c.deref-2.result.now) (take rest_served rest)) c.clear.ensures.items ∙ ap (λ (xs : List Item). weave aside (take served xs) (take rest_served rest)) c.deref-2.ensures.value) in
    let put : c.put_front.new.list.items ≡ first ++ drop (length first) list = c.put_front.ensures.items ∙ ap (λ (xs : List Item). xs ++ drop (length xs) list) (c.deref-3.ensures.value ∙ whole) in
    let long : length first ≡ c.len-front.result = omega (arith, ap length whole, c.len-front.ensures, c.weave_part.new.whole.ok.0) in
    let below : c.len-front.result ≤ served = omega (arith, c.if-front-served.false) in
    let behind = placed.1 ∙ ap (places_from aside served) (take_rest list served ∙ sym (put_over list c.put_front.new.list.items first served put (omega (arith, long, below)))) in
    woven_in_place aside list c.put_front.new.list.items c.weave_down-at.new.list.items first rest served rest_served c.weave_down-at.result c.len-front.result put long below both
    (c.weave_down-at.ensures.items aside behind)
