-- What holds of the parts of a batch, flow by flow, as its items are taken up.
use Rattle.std.proofs.Common.{◌≡◌, ◌≤◌, ◌+◌, ℕ, List, [], ◌∷◌, length, replicate, not, nat_lt, All, refl, sym, ap, ◌∙◌, subst, arith, inl, inr}
use Rattle.std.specs.Prelude.{vec_capacity, vec_len}
use Rattle.greedy_rules.specs.declared.flows.Flow.{Flow}
use Rattle.greedy_rules.specs.declared.flows.Item.{Item}
use Rattle.greedy_rules.specs.declared.limits.Limits.{Limits}
use Rattle.greedy_rules.proofs.Facts.{few, Apart, apart_from_all, IsMatching-slot_with, not_taken, All-batch_slots}
use Rattle.greedy_rules.specs.Allocation.{batch_slots}
use Rattle.greedy_rules.specs.Matching.{IsMatching}
use Rattle.greedy_rules.specs.Slot.{Bar}
use Rattle.greedy_rules.specs.Limits.{is_barred}
use Rattle.slot_batches.specs.FlowByFlow.{items_after}
use Rattle.slot_batches.specs.Feeding.{unserved, newly_served}
use Rattle.slot_batches.specs.Progress.{StandsAfter}
use Rattle.slot_batches.specs.Filled.{Fill, HasTakenUp}
use Rattle.slot_batches.specs.Parts.{fill_of, FillingHasRoom}
use Rattle.slot_batches.specs.declared.filling.Filling.{Filling}
use Rattle.list_facts.proofs.Pairs.{AllPairs-nil}
use Rattle.slot_batches.proofs.SlotExchange.{slot_by_slot}
use Rattle.slot_batches.proofs.TurnFacts.{length-items_after}
use Rattle.std.proofs.lemmas.Bool.{cases_Bool, cond-true, cond-false}

-- an item waits or was served
parts_count : (number : ℕ) (items : List Item) → length (unserved number items) + length (newly_served number items) ≡ length items
parts_count number [] = refl
parts_count number (item ∷ items) =
    let rest = parts_count number items in
    elim (cases_Bool (nat_lt item.last number)) [
      | inl low ↦ omega (
        arith,
        rest,
        ap (λ (xs : List Item). length xs) (cond-true (nat_lt item.last number) (item ∷ unserved number items) (unserved number items) low),
        ap (λ (xs : List Item). length xs) (cond-false (not (nat_lt item.last number)) (item ∷ newly_served number items) (newly_served number items) (ap not low)),
      )
      | inr high ↦ omega (
        arith,
        rest,
        ap (λ (xs : List Item). length xs) (cond-false (nat_lt item.last number) (item ∷ unserved number items) (unserved number items) high),
        ap (λ (xs : List Item). length xs) (cond-true (not (nat_lt item.last number)) (item ∷ newly_served number items) (newly_served number items) (ap not high)),
      )
    ]

module _ (bar : Bar) where
  pub lengths_after : (number count : ℕ) (list : List Item) (slots : List (List Flow)) (waiting served : List Item) → StandsAfter bar number count list slots waiting served
      → length waiting + length served ≡ length list
  lengths_after number count list slots waiting served stands =
      let items : List Item = items_after bar number list (replicate count []) in
      omega (
        arith,
        ap (λ (xs : List Item). length xs) stands.waiting_are,
        ap (λ (xs : List Item). length xs) stands.served_are,
        parts_count number items,
        length-items_after bar number list (replicate count []),
      )

-- all that was taken up has room among what waits
pub fits_waiting : (taken : List Item) (filling : Filling) → FillingHasRoom filling → HasTakenUp taken (fill_of filling) → vec_len filling.waiting + vec_len filling.served ≤ vec_capacity filling.waiting
fits_waiting taken filling room is =
    omega (
      arith,
      lengths_after (is_barred filling.maps.limits) filling.first_slot filling.b taken filling.slots.slots filling.waiting.items filling.served.items is.stands,
      few filling.endpoints taken is.may.once is.may.in_range,
      filling.waiting.ok.0,
      filling.served.ok.0,
      room.pairs,
    )

-- the slots as they stand are matchings
pub matchings_so_far : (taken : List Item) (fill : Fill) → HasTakenUp taken fill → All IsMatching fill.slots
matchings_so_far taken fill is =
    let limits : Limits = fill.maps.limits in
    let bar : Bar = is_barred limits in
    let batch : All IsMatching (batch_slots bar fill.first_slot fill.b taken) =
    All-batch_slots bar (λ flow. Unit {0}) IsMatching
    (λ slot flow any free matching. IsMatching-slot_with flow slot (apart_from_all slot flow (not_taken limits slot flow free)) matching)
    (AllPairs-nil Apart) fill.first_slot fill.b taken (λ at d within. tt) in
    subst (All IsMatching) (sym (is.stands.slots_are ∙ (slot_by_slot bar fill.first_slot fill.b taken is.may.once).slots)) batch
