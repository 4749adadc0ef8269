-- After a batch flow by flow: the items that it did not serve stand as they stood, and those that it served follow in the order
-- of their last slots.
use Rattle.std.proofs.Common.{◌≡◌, ◌<◌, ◌≤◌, ◌+◌, ◌-◌, ◌⊎◌, ℕ, suc, List, [], ◌∷◌, ◌++◌, length, filter, Bool, true, false, not, ◌&&◌, nat_lt, cond, refl, sym, ap, ◌∙◌, arith, inl, inr}
use Rattle.std.proofs.lemmas.Bool.{cond_both, cases_Bool, ltb-true, ltb-false, not-true}
use Rattle.std.proofs.lemmas.List.Elements.{All-weaker, filter_passes}
use Rattle.greedy_rules.specs.declared.flows.Flow.{Flow}
use Rattle.greedy_rules.specs.declared.flows.Item.{Item}
use Rattle.list_facts.specs.Order.{insert_by, sort_by}
use Rattle.greedy_rules.specs.Slot.{Bar}
use Rattle.greedy_rules.specs.Demands.{by_last}
use Rattle.list_facts.proofs.StableSort.{Floor, Rises, floor_lower, rises_from, All-sort_by}
use Rattle.slot_batches.specs.FlowByFlow.{slots_with, item_after, items_after}
use Rattle.slot_batches.specs.Feeding.{IsInOrder, unserved, newly_served, IsServedWithin}
use Rattle.slot_batches.proofs.ListOrder.{Ceiling, ceiling_from, floor_from_all, insert_by-past, insert_by-within, sort_by-rises}
use Rattle.slot_batches.proofs.NextList.{last_of}

module _ {X : Type 0} (number : X → ℕ) (n : ℕ) where
  -- the elements whose numbers are below n, and the others
  abbrev lows : List X → List X
  lows xs = filter (λ x. nat_lt (number x) n) xs

  abbrev highs : List X → List X
  highs xs = filter (λ x. not (nat_lt (number x) n)) xs

  sorted_lows : (m : ℕ) (xs : List X) → n ≤ m → Ceiling number m (sort_by number (lows xs))
  sorted_lows m xs le =
      let low : (x : X) → nat_lt (number x) n ≡ true → number x < m = λ x is. let below : number x < n = ltb-true _ _ is in omega arith in
      ceiling_from number m (sort_by number (lows xs))
      (All-sort_by (λ x. number x < m) number (lows xs)
      (All-weaker (λ x. nat_lt (number x) n ≡ true) (λ x. number x < m) low (lows xs) (filter_passes (λ x. nat_lt (number x) n) xs)))

  sorted_highs : (m : ℕ) (xs : List X) → m ≤ n → Floor number m (sort_by number (highs xs))
  sorted_highs m xs le =
      let high : (x : X) → not (nat_lt (number x) n) ≡ true → m ≤ number x = λ x is. let above : n ≤ number x = ltb-false _ _ (not-true _ is) in omega arith in
      floor_from_all number m (sort_by number (highs xs))
      (All-sort_by (λ x. m ≤ number x) number (highs xs)
      (All-weaker (λ x. not (nat_lt (number x) n) ≡ true) (λ x. m ≤ number x) high (highs xs) (filter_passes (λ x. not (nat_lt (number x) n)) xs)))

  -- sorted, the low ones come first
  pub sort_by-parts : (xs : List X) → sort_by number xs ≡ sort_by number (lows xs) ++ sort_by number (highs xs)
  sort_by-parts [] = refl
  sort_by-parts (x ∷ xs) =
      let parts : Bool → List X = λ b. sort_by number (cond b (x ∷ lows xs) (lows xs)) ++ sort_by number (cond (not b) (x ∷ highs xs) (highs xs)) in
      elim (cases_Bool (nat_lt (number x) n)) [
        | inl low ↦
            let below : number x < n = ltb-true _ _ low in
            ap (insert_by number x) (sort_by-parts xs)
            ∙ (insert_by-within number x (sort_by number (lows xs)) (sort_by number (highs xs)) (sorted_highs (number x) xs (omega arith))
            ∙ ap parts (sym low))
        | inr high ↦
            let above : n ≤ number x = ltb-false _ _ high in
            ap (insert_by number x) (sort_by-parts xs)
            ∙ (insert_by-past number x (sort_by number (lows xs)) (sort_by number (highs xs)) (sorted_lows (number x) xs above)
            ∙ ap parts (sym high))
      ]

module _ (bar : Bar) where
  -- an item is as it was, or was served in one of the slots
  pub item_after_cases : (number : ℕ) (item : Item) (slots : List (List Flow))
      → (item_after bar number item slots ≡ item) ⊎ IsServedWithin number (length slots) (item_after bar number item slots)
  item_after_cases number item [] = inl refl
  item_after_cases number item (slot ∷ slots) =
      let fits : Bool = nat_lt 0 item.need && not (bar slot item.flow) in
      let put : Item = record item { need = item.need - 1; last = number } in
      let P : Item → Type 0 = λ now. (item_after bar (number + 1) now slots ≡ item) ⊎ IsServedWithin number (suc (length slots)) (item_after bar (number + 1) now slots) in
      let later : (now : Item) → IsServedWithin (number + 1) (length slots) (item_after bar (number + 1) now slots) → IsServedWithin number (suc (length slots)) (item_after bar (number + 1) now slots) =
      λ now within. (omega (arith, within.0), omega (arith, within.1)) in
      cond_both fits put item P
      (λ _. elim (item_after_cases (number + 1) put slots) [
        | inl same ↦ let at : (item_after bar (number + 1) put slots).last ≡ number = ap last_of same in inr (omega arith, omega arith)
        | inr within ↦ inr (later put within)
      ])
      (λ _. elim (item_after_cases (number + 1) item slots) [
        | inl same ↦ inl same
        | inr within ↦ inr (later item within)
      ])

  -- whose last is below the slots is as it was
  pub item_after_low : (number : ℕ) (item : Item) (slots : List (List Flow)) → nat_lt (item_after bar number item slots).last number ≡ true → item_after bar number item slots ≡ item
  item_after_low number item slots low =
      let below : (item_after bar number item slots).last < number = ltb-true _ _ low in
      elim (item_after_cases number item slots) [
        | inl same ↦ same
        | inr within ↦ absurd (omega (arith, within.0))
      ]

  pub item_after_high : (number : ℕ) (item : Item) (slots : List (List Flow)) → item.last < number → nat_lt (item_after bar number item slots).last number ≡ false
      → IsServedWithin number (length slots) (item_after bar number item slots)
  item_after_high number item slots old high =
      let above : number ≤ (item_after bar number item slots).last = ltb-false _ _ high in
      elim (item_after_cases number item slots) [
        | inl same ↦ let level : (item_after bar number item slots).last ≡ item.last = ap last_of same in absurd (omega arith)
        | inr within ↦ within
      ]

  floor-unserved : (m number : ℕ) (list : List Item) (slots : List (List Flow)) → Floor last_of m list → Floor last_of m (unserved number (items_after bar number list slots))
  floor-unserved m number [] slots floor = tt
  floor-unserved m number (item ∷ list) slots floor =
      let now : Item = item_after bar number item slots in
      let rest : List Item = unserved number (items_after bar number list (slots_with bar number item slots)) in
      let up = floor-unserved m number list (slots_with bar number item slots) floor.1 in
      cond_both (nat_lt now.last number) (now ∷ rest) rest (Floor last_of m)
      (λ low. let level : now.last ≡ item.last = ap last_of (item_after_low number item slots low) in (omega (arith, floor.0), up)) (λ _. up)

  rises-unserved : (number : ℕ) (list : List Item) (slots : List (List Flow)) → Rises last_of list → Rises last_of (unserved number (items_after bar number list slots))
  rises-unserved number [] slots rises = tt
  rises-unserved number (item ∷ list) slots rises =
      let now : Item = item_after bar number item slots in
      let rest : List Item = unserved number (items_after bar number list (slots_with bar number item slots)) in
      let up = rises-unserved number list (slots_with bar number item slots) rises.1 in
      cond_both (nat_lt now.last number) (now ∷ rest) rest (Rises last_of)
      (λ low.
      let level : now.last ≡ item.last = ap last_of (item_after_low number item slots low) in
      (floor_lower last_of now.last item.last rest (omega arith) (floor-unserved item.last number list (slots_with bar number item slots) rises.0), up))
      (λ _. up)

  -- the list after the batch
  pub two_runs : (number : ℕ) (list : List Item) (slots : List (List Flow)) → IsInOrder list
      → by_last (items_after bar number list slots) ≡ unserved number (items_after bar number list slots) ++ by_last (newly_served number (items_after bar number list slots))
  two_runs number list slots up =
      let items : List Item = items_after bar number list slots in
      sort_by-parts last_of number items
      ∙ ap (λ (zs : List Item). zs ++ by_last (newly_served number items))
      (sort_by-rises last_of (unserved number items) (rises-unserved number list slots (rises_from last_of list up)))
