-- A batch that goes flow by flow, one item after the other.
use Rattle.std.proofs.Common.{◌≡◌, ◌<◌, ◌≤◌, ℕ, List, [], ◌∷◌, ◌++◌, replicate, true, false, nat_lt, refl, sym, ap, ◌∙◌}
use Rattle.std.proofs.lemmas.Bool.{lt-ltb, le-ltb}
use Rattle.std.proofs.lemmas.List.{append_assoc}
use Rattle.std.proofs.lemmas.List.Elements.{filter-append}
use Rattle.greedy_rules.specs.declared.flows.Flow.{Flow}
use Rattle.greedy_rules.specs.declared.flows.Item.{Item}
use Rattle.greedy_rules.specs.declared.flows.Entry.{Entry}
use Rattle.greedy_rules.specs.Demands.{after_batch, by_last}
use Rattle.greedy_rules.specs.Slot.{Bar}
use Rattle.slot_batches.specs.FlowByFlow.{slots_with, item_after, slots_after, items_after}
use Rattle.slot_batches.specs.Feeding.{taken_up, IsInOrder, unserved, newly_served}
use Rattle.slot_batches.specs.Progress.{StandsAfter}
use Rattle.slot_batches.proofs.OpenedFlows.{taken_up_all, taken_up_rest, in_order-after_batch}
use Rattle.slot_batches.proofs.SortedRuns.{two_runs}
use Rattle.slot_batches.proofs.TurnSteps.{slots_after_more, items_after_more, items_after-append, unserved_more, unserved_same, newly_served_more, newly_served_same}

module _ (bar : Bar) where
  pub stands_at_start : (number count : ℕ) → StandsAfter bar number count [] (replicate count []) [] []
  stands_at_start number count = record { slots_are = refl; waiting_are = refl; served_are = refl }

  module _ (number count : ℕ) (list : List Item) (slots : List (List Flow)) (waiting served : List Item) (stands : StandsAfter bar number count list slots waiting served) where
    abbrev items : List Item
    items = items_after bar number list (replicate count [])

    -- the items with one more, by the slots as they stand
    one_more : (item now : Item) → now ≡ item_after bar number item slots → items_after bar number (list ++ item ∷ []) (replicate count []) ≡ items ++ now ∷ []
    one_more item now is =
        items_after_more bar number list item (replicate count [])
        ∙ ap (λ (x : Item). items ++ x ∷ []) (sym (is ∙ ap (item_after bar number item) stands.slots_are))

    more_slots : (item : Item) (after : List (List Flow)) → after ≡ slots_with bar number item slots → after ≡ slots_after bar number (list ++ item ∷ []) (replicate count [])
    more_slots item after is = is ∙ (ap (slots_with bar number item) stands.slots_are ∙ sym (slots_after_more bar number list item (replicate count [])))

    -- an item that got no slot waits on
    pub stands_with_waiting : (item now : Item) (after : List (List Flow)) → after ≡ slots_with bar number item slots → now ≡ item_after bar number item slots → now.last < number
        → StandsAfter bar number count (list ++ item ∷ []) after (waiting ++ now ∷ []) served
    stands_with_waiting item now after slots_are is low =
        let more = one_more item now is in
        let test : nat_lt now.last number ≡ true = lt-ltb _ _ low in
        record {
          slots_are = more_slots item after slots_are;
          waiting_are = ap (λ (xs : List Item). xs ++ now ∷ []) stands.waiting_are ∙ sym (ap (unserved number) more ∙ unserved_more number items now test);
          served_are = stands.served_are ∙ sym (ap (newly_served number) more ∙ newly_served_same number items now test);
        }

    -- an item that got slots is served
    pub stands_with_served : (item now : Item) (after : List (List Flow)) → after ≡ slots_with bar number item slots → now ≡ item_after bar number item slots → number ≤ now.last
        → StandsAfter bar number count (list ++ item ∷ []) after waiting (served ++ now ∷ [])
    stands_with_served item now after slots_are is high =
        let more = one_more item now is in
        let test : nat_lt now.last number ≡ false = le-ltb _ _ high in
        record {
          slots_are = more_slots item after slots_are;
          waiting_are = stands.waiting_are ∙ sym (ap (unserved number) more ∙ unserved_same number items now test);
          served_are = ap (λ (xs : List Item). xs ++ now ∷ []) stands.served_are ∙ sym (ap (newly_served number) more ∙ newly_served_more number items now test);
        }

  -- once the whole list was fed, the items that wait and then those served, by their last slots, are the list after the batch
  pub stands_at_end : (number count : ℕ) (batch : List Entry) (list : List Item) (slots : List (List Flow)) (waiting served : List Item) → IsInOrder list
      → StandsAfter bar number count (taken_up batch list true) slots waiting served
      → (slots ≡ slots_after bar number (after_batch batch list) (replicate count []))
      × (waiting ++ by_last served ≡ by_last (items_after bar number (after_batch batch list) (replicate count [])))
  stands_at_end number count batch list slots waiting served up stands =
      let empty : List (List Flow) = replicate count [] in
      let whole = taken_up_all batch list up in
      let items : List Item = items_after bar number (after_batch batch list) empty in
      let applied : IsInOrder (after_batch batch list) = in_order-after_batch batch list in
      let waits : waiting ≡ unserved number items = stands.waiting_are ∙ ap (λ (xs : List Item). unserved number (items_after bar number xs empty)) whole in
      let serves : served ≡ newly_served number items = stands.served_are ∙ ap (λ (xs : List Item). newly_served number (items_after bar number xs empty)) whole in (
        stands.slots_are ∙ ap (λ (xs : List Item). slots_after bar number xs empty) whole,
        ap (λ (xs : List Item). xs ++ by_last served) waits
            ∙ (ap (λ (xs : List Item). unserved number items ++ by_last xs) serves
            ∙ sym (two_runs bar number (after_batch batch list) empty applied)),
      )

  -- before that, the items that wait are the front of it
  pub stands_midway : (number count : ℕ) (batch : List Entry) (fed rest : List Item) (slots : List (List Flow)) (waiting served : List Item) → IsInOrder (fed ++ rest)
      → StandsAfter bar number count (taken_up batch fed false) slots waiting served
      → (more : List Item) × (by_last (items_after bar number (after_batch batch (fed ++ rest)) (replicate count [])) ≡ waiting ++ more)
  stands_midway number count batch fed rest slots waiting served up stands =
      let empty : List (List Flow) = replicate count [] in
      let list : List Item = fed ++ rest in
      let taken : List Item = taken_up batch fed false in
      let later = taken_up_rest batch fed rest in
      let last : List Item = items_after bar number later.0 (slots_after bar number taken empty) in
      let items : List Item = items_after bar number (after_batch batch list) empty in
      let applied : IsInOrder (after_batch batch list) = in_order-after_batch batch list in
      let split : items ≡ items_after bar number taken empty ++ last =
      ap (λ (xs : List Item). items_after bar number xs empty) (sym (taken_up_all batch list up) ∙ later.1) ∙ items_after-append bar number taken later.0 empty in
      let parts : unserved number items ≡ waiting ++ unserved number last =
      ap (unserved number) split
      ∙ (filter-append (λ item. nat_lt item.last number) (items_after bar number taken empty) last
      ∙ ap (λ (xs : List Item). xs ++ unserved number last) (sym stands.waiting_are)) in (
        unserved number last ++ by_last (newly_served number items),
        two_runs bar number (after_batch batch list) empty applied
            ∙ (ap (λ (xs : List Item). xs ++ by_last (newly_served number items)) parts
            ∙ append_assoc waiting (unserved number last) (by_last (newly_served number items))),
      )
