-- One item more has its turns: the slots, the items that got none of them, and those that got some.
use Rattle.std.proofs.Common.{◌≡◌, ℕ, List, [], ◌∷◌, ◌++◌, true, false, not, nat_lt, refl, ap, ◌∙◌}
use Rattle.std.proofs.lemmas.Bool.{cond-true, cond-false, not_from_true, not_from_false}
use Rattle.std.proofs.lemmas.List.{append-nil}
use Rattle.std.proofs.lemmas.List.Elements.{filter-append}
use Rattle.greedy_rules.specs.declared.flows.Flow.{Flow}
use Rattle.greedy_rules.specs.declared.flows.Item.{Item}
use Rattle.greedy_rules.specs.Slot.{Bar}
use Rattle.slot_batches.specs.FlowByFlow.{slots_with, item_after, slots_after, items_after}
use Rattle.slot_batches.specs.Feeding.{unserved, newly_served}

module _ (bar : Bar) where
  pub slots_after-append : (number : ℕ) (xs ys : List Item) (slots : List (List Flow)) → slots_after bar number (xs ++ ys) slots ≡ slots_after bar number ys (slots_after bar number xs slots)
  slots_after-append number [] ys slots = refl
  slots_after-append number (x ∷ xs) ys slots = slots_after-append number xs ys (slots_with bar number x slots)

  pub items_after-append : (number : ℕ) (xs ys : List Item) (slots : List (List Flow))
      → items_after bar number (xs ++ ys) slots ≡ items_after bar number xs slots ++ items_after bar number ys (slots_after bar number xs slots)
  items_after-append number [] ys slots = refl
  items_after-append number (x ∷ xs) ys slots = ap (λ (zs : List Item). item_after bar number x slots ∷ zs) (items_after-append number xs ys (slots_with bar number x slots))

  -- one item more, by the slots as they then are
  pub slots_after_more : (number : ℕ) (list : List Item) (item : Item) (slots : List (List Flow))
      → slots_after bar number (list ++ item ∷ []) slots ≡ slots_with bar number item (slots_after bar number list slots)
  slots_after_more number list item slots = slots_after-append number list (item ∷ []) slots

  pub items_after_more : (number : ℕ) (list : List Item) (item : Item) (slots : List (List Flow))
      → items_after bar number (list ++ item ∷ []) slots ≡ items_after bar number list slots ++ item_after bar number item (slots_after bar number list slots) ∷ []
  items_after_more number list item slots = items_after-append number list (item ∷ []) slots

module _ (number : ℕ) (items : List Item) (now : Item) where
  pub unserved_more : nat_lt now.last number ≡ true → unserved number (items ++ now ∷ []) ≡ unserved number items ++ now ∷ []
  unserved_more low =
      filter-append (λ item. nat_lt item.last number) items (now ∷ [])
      ∙ ap (λ (zs : List Item). unserved number items ++ zs) (cond-true (nat_lt now.last number) (now ∷ []) [] low)

  pub unserved_same : nat_lt now.last number ≡ false → unserved number (items ++ now ∷ []) ≡ unserved number items
  unserved_same high =
      filter-append (λ item. nat_lt item.last number) items (now ∷ [])
      ∙ (ap (λ (zs : List Item). unserved number items ++ zs) (cond-false (nat_lt now.last number) (now ∷ []) [] high)
      ∙ append-nil (unserved number items))

  pub newly_served_more : nat_lt now.last number ≡ false → newly_served number (items ++ now ∷ []) ≡ newly_served number items ++ now ∷ []
  newly_served_more high =
      filter-append (λ item. not (nat_lt item.last number)) items (now ∷ [])
      ∙ ap (λ (zs : List Item). newly_served number items ++ zs) (cond-true (not (nat_lt now.last number)) (now ∷ []) [] (not_from_false _ high))

  pub newly_served_same : nat_lt now.last number ≡ true → newly_served number (items ++ now ∷ []) ≡ newly_served number items
  newly_served_same low =
      filter-append (λ item. not (nat_lt item.last number)) items (now ∷ [])
      ∙ (ap (λ (zs : List Item). newly_served number items ++ zs) (cond-false (not (nat_lt now.last number)) (now ∷ []) [] (not_from_true _ low))
      ∙ append-nil (newly_served number items))
