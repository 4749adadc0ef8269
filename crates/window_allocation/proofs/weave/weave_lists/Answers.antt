use Rattle.std.proofs.Common.{◌++◌, ◌-◌, ℕ, List, length, take, drop, sym, ap, ◌∙◌, subst, arith}
use Rattle.std.specs.List.Sorted.{IsNonDecreasingBy}
use Rattle.std.proofs.lemmas.List.{length-append}
use Rattle.greedy_rules.specs.declared.flows.Item.{Item}
use Rattle.slot_batches.specs.Woven.{weave}
use Rattle.window_allocation.proofs.Places.{places_rise, parts_placed, parts_woven}
use Rattle.window_allocation.proofs.weave.weave_lists.Goals as goal

pub places_below-places_served-requires : goal.places_below-places_served-requires
places_below-places_served-requires c = subst (IsNonDecreasingBy (λ place. place)) (sym c.requires.room.1) (places_rise c.requires.room.0 0 c.args.list.now)

pub weave_part-requires : goal.weave_part-requires
weave_part-requires c =
    let aside = c.requires.room.0 in
    let list = c.args.list.now in
    let rest = c.args.rest.now in
    let served : ℕ = c.first_served-served.result in
    let rest_served : ℕ = c.first_served-rest_served.result in
    let first : List Item = weave aside (take served list) (take rest_served rest) in
    let second : List Item = weave aside (take (length list - served) (drop served list)) (take (length rest - rest_served) (drop rest_served rest)) in
    let placed = parts_placed aside served c.places_below-places_served.result list c.args.places.now c.first_served-served.ensures.within c.places_below-places_served.ensures.within c.requires.room.1 c.places_below-places_served.ensures.point in
    let both = parts_woven aside served rest_served list rest c.first_served-served.ensures.never c.first_served-served.ensures.once c.first_served-rest_served.ensures.never c.first_served-rest_served.ensures.once in
    record { room = (aside, placed.0, omega (arith, c.requires.room.2, ap length both, length-append first second, c.clear.ensures.len, c.clear.ensures.capacity)) }

pub weave_part-requires-2 : goal.weave_part-requires-2
weave_part-requires-2 c =
    let aside = c.requires.room.0 in
    let list = c.args.list.now in
    let rest = c.args.rest.now in
    let served : ℕ = c.first_served-served.result in
    let rest_served : ℕ = c.first_served-rest_served.result in
    let first : List Item = weave aside (take served list) (take rest_served rest) in
    let second : List Item = weave aside (take (length list - served) (drop served list)) (take (length rest - rest_served) (drop rest_served rest)) in
    let placed = parts_placed aside served c.places_below-places_served.result list c.args.places.now c.first_served-served.ensures.within c.places_below-places_served.ensures.within c.requires.room.1 c.places_below-places_served.ensures.point in
    let both = parts_woven aside served rest_served list rest c.first_served-served.ensures.never c.first_served-served.ensures.once c.first_served-rest_served.ensures.never c.first_served-rest_served.ensures.once in
    record {
      room = (
        aside,
        placed.1,
        omega (
          arith,
          c.requires.room.2,
          ap length both,
          length-append first second,
          ap length (c.weave_part.ensures.items aside placed.0),
          length-append c.clear.new.self.items first,
          ap length c.clear.ensures.items,
          c.clear.ensures.capacity,
          c.weave_part.ensures.capacity,
          c.weave_part.new.whole.ok.0,
        ),
      );
    }

pub returns-clause-items : goal.returns-clause-items
returns-clause-items c = λ aside are.
    let list = c.args.list.now in
    let rest = c.args.rest.now in
    let served : ℕ = c.first_served-served.result in
    let rest_served : ℕ = c.first_served-rest_served.result in
    let second : List Item = weave aside (take (length list - served) (drop served list)) (take (length rest - rest_served) (drop rest_served rest)) in
    let first : List Item = weave aside (take served list) (take rest_served rest) in
    let placed = parts_placed aside served c.places_below-places_served.result list c.args.places.now c.first_served-served.ensures.within c.places_below-places_served.ensures.within are c.places_below-places_served.ensures.point in
    let both = parts_woven aside served rest_served list rest c.first_served-served.ensures.never c.first_served-served.ensures.once c.first_served-rest_served.ensures.never c.first_served-rest_served.ensures.once in
    c.weave_part-2.ensures.items aside placed.1
    ∙ (ap (λ (xs : List Item). xs ++ second) (c.weave_part.ensures.items aside placed.0 ∙ ap (λ (xs : List Item). xs ++ first) c.clear.ensures.items) ∙ both)
