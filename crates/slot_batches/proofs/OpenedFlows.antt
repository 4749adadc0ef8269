-- The flows that a batch opens, taken up where the first item comes that was served before, stand where applying the batch puts them.
use Rattle.std.proofs.Common.{◌≡◌, ◌<◌, ◌≤◌, ℕ, List, [], ◌∷◌, ◌++◌, map, filter, true, false, not, ◌&&◌, ◌||◌, cond, refl, sym, ap, ◌∙◌, arith, inl, inr}
use Rattle.std.proofs.lemmas.Bool.{cond-true, cond-false, cond_both, cases_Bool, ltb-true, ltb-false, lt-ltb, and_from, not_from_true, not_from_false}
use Rattle.std.proofs.lemmas.List.{append-nil, append_assoc, map_push, map-append}
use Rattle.greedy_rules.specs.declared.flows.Item.{Item}
use Rattle.greedy_rules.specs.declared.flows.Entry.{Entry}
use Rattle.list_facts.specs.Order.{insert_by}
use Rattle.greedy_rules.specs.Demands.{with_batch, opened, after_batch}
use Rattle.list_facts.proofs.StableSort.{Floor, Rises, rises_from}
use Rattle.slot_batches.specs.Feeding.{was_served, has_served, taken_up, IsInOrder}
use Rattle.slot_batches.proofs.ListOrder.{Ceiling, insert_by-front, insert_by-past, sort_by-rises, in_order-sort_by}
use Rattle.slot_batches.proofs.NextList.{last_of}

-- the flows that open were never served
unserved-opened : (n : ℕ) (batch : List Entry) → 0 < n → Ceiling last_of n (opened batch)
unserved-opened n [] positive = tt
unserved-opened n (entry ∷ batch) positive =
    cond_both entry.opens (entry ∷ filter (λ e. e.opens) batch) (filter (λ e. e.opens) batch)
    (λ es. Ceiling last_of n (map (λ (e : Entry). record { flow = e.flow; need = e.add; last = 0 }) es))
    (λ _. (positive, unserved-opened n batch positive)) (λ _. unserved-opened n batch positive)

floor-map : (n : ℕ) (batch : List Entry) (list : List Item) → Floor last_of n list → Floor last_of n (map (with_batch batch) list)
floor-map n batch [] floor = tt
floor-map n batch (item ∷ list) floor = (floor.0, floor-map n batch list floor.1)

-- nothing is below zero
floor_zero : (n : ℕ) (list : List Item) → n ≤ 0 → Floor last_of n list
floor_zero n [] none = tt
floor_zero n (item ∷ list) none = (omega arith, floor_zero n list none)

pub rises-opened : (batch : List Entry) → Rises last_of (opened batch)
rises-opened [] = tt
rises-opened (entry ∷ batch) =
    cond_both entry.opens (entry ∷ filter (λ e. e.opens) batch) (filter (λ e. e.opens) batch)
    (λ es. Rises last_of (map (λ (e : Entry). record { flow = e.flow; need = e.add; last = 0 }) es))
    (λ _. (floor_zero 0 (opened batch) (omega arith), rises-opened batch)) (λ _. rises-opened batch)

-- behind an item that was served, in a list in order, the flows that open would come first
taken_up-served : (batch : List Entry) (item : Item) (list : List Item) → 0 < item.last → Floor last_of item.last list
    → taken_up batch list true ≡ opened batch ++ map (with_batch batch) list
taken_up-served batch item [] positive floor = sym (append-nil (opened batch))
taken_up-served batch item (next ∷ list) positive floor =
    cond-true (was_served next) (opened batch ++ map (with_batch batch) (next ∷ list)) (with_batch batch next ∷ taken_up batch list true)
    (lt-ltb 0 next.last (omega (arith, floor.0)))

taken_up-rises : (batch : List Entry) (list : List Item) → Rises last_of list → taken_up batch list true ≡ after_batch batch list
taken_up-rises batch [] rises = sym (sort_by-rises last_of (opened batch) (rises-opened batch))
taken_up-rises batch (item ∷ list) rises =
    let put = with_batch batch item in
    let rest = taken_up-rises batch list rises.1 in
    elim (cases_Bool (was_served item)) [
      | inl served ↦
          let positive : 0 < item.last = ltb-true 0 item.last served in
          cond-true (was_served item) (opened batch ++ map (with_batch batch) (item ∷ list)) (put ∷ taken_up batch list true) served
          ∙ sym (ap (insert_by last_of put) (sym rest ∙ taken_up-served batch item list positive rises.0)
          ∙ (insert_by-past last_of put (opened batch) (map (with_batch batch) list) (unserved-opened item.last batch positive)
          ∙ ap (λ (zs : List Item). opened batch ++ zs) (insert_by-front last_of put (map (with_batch batch) list) (floor-map item.last batch list rises.0))))
      | inr never ↦
          cond-false (was_served item) (opened batch ++ map (with_batch batch) (item ∷ list)) (put ∷ taken_up batch list true) never
          ∙ (ap (λ (zs : List Item). put ∷ zs) rest
          ∙ sym (insert_by-front last_of put (after_batch batch list) (floor_zero item.last (after_batch batch list) (ltb-false 0 item.last never))))
    ]

-- a list in order, fed to its end, is the list with the batch applied
pub taken_up_all : (batch : List Entry) (list : List Item) → IsInOrder list → taken_up batch list true ≡ after_batch batch list
taken_up_all batch list up = taken_up-rises batch list (rises_from last_of list up)

pub in_order-after_batch : (batch : List Entry) (list : List Item) → IsInOrder (after_batch batch list)
in_order-after_batch batch list = in_order-sort_by last_of (map (with_batch batch) list ++ opened batch)

-- the flows that open come just before the next item where that was served, and none before it was
abbrev pub opened_before : List Entry → List Item → Item → List Item
opened_before batch fed item = cond (not (has_served fed) && was_served item) (opened batch) []

-- one item more is fed
pub taken_up_more : (batch : List Entry) (fed : List Item) (item : Item)
    → taken_up batch (fed ++ item ∷ []) false ≡ taken_up batch fed false ++ opened_before batch fed item ++ with_batch batch item ∷ []
taken_up_more batch [] item =
    elim (was_served item) as (λ b. cond b (opened batch ++ with_batch batch item ∷ []) (with_batch batch item ∷ []) ≡ cond b (opened batch) [] ++ with_batch batch item ∷ []) [
      | true ↦ refl
      | false ↦ refl
    ]
taken_up_more batch (first ∷ fed) item =
    let put : List Item → List Item = map (with_batch batch) in
    let last : List Item = with_batch batch item ∷ [] in
    elim (was_served first) as (λ b. cond b (opened batch ++ put (first ∷ (fed ++ item ∷ []))) (with_batch batch first ∷ taken_up batch (fed ++ item ∷ []) false)
    ≡ cond b (opened batch ++ put (first ∷ fed)) (with_batch batch first ∷ taken_up batch fed false) ++ cond (not (b || has_served fed) && was_served item) (opened batch) [] ++ last) [
      | true ↦
          ap (λ (zs : List Item). opened batch ++ zs) (map_push (with_batch batch) (first ∷ fed) item)
          ∙ (sym (append_assoc (opened batch) (put (first ∷ fed)) last)
          ∙ ap (λ (zs : List Item). zs ++ last) (sym (append-nil (opened batch ++ put (first ∷ fed)))))
      | false ↦ ap (λ (zs : List Item). with_batch batch first ∷ zs) (taken_up_more batch fed item)
    ]

-- the end is told
pub taken_up_end : (batch : List Entry) (fed : List Item) → taken_up batch fed true ≡ taken_up batch fed false ++ cond (has_served fed) [] (opened batch)
taken_up_end batch [] = refl
taken_up_end batch (first ∷ fed) =
    let put : List Item → List Item = map (with_batch batch) in
    elim (was_served first) as (λ b. cond b (opened batch ++ put (first ∷ fed)) (with_batch batch first ∷ taken_up batch fed true)
    ≡ cond b (opened batch ++ put (first ∷ fed)) (with_batch batch first ∷ taken_up batch fed false) ++ cond (b || has_served fed) [] (opened batch)) [
      | true ↦ sym (append-nil (opened batch ++ put (first ∷ fed)))
      | false ↦ ap (λ (zs : List Item). with_batch batch first ∷ zs) (taken_up_end batch fed)
    ]

-- what is taken up with more of the list stands behind what was taken up before
pub taken_up_rest : (batch : List Entry) (fed rest : List Item) → (more : List Item) × (taken_up batch (fed ++ rest) true ≡ taken_up batch fed false ++ more)
taken_up_rest batch [] rest = (taken_up batch rest true, refl)
taken_up_rest batch (first ∷ fed) rest =
    let put : List Item → List Item = map (with_batch batch) in
    let later = taken_up_rest batch fed rest in
    elim (was_served first) as (λ b. (more : List Item) × (cond b (opened batch ++ put (first ∷ (fed ++ rest))) (with_batch batch first ∷ taken_up batch (fed ++ rest) true)
    ≡ cond b (opened batch ++ put (first ∷ fed)) (with_batch batch first ∷ taken_up batch fed false) ++ more)) [
      | true ↦ (put rest, ap (λ (zs : List Item). opened batch ++ zs) (map-append (with_batch batch) (first ∷ fed) rest) ∙ sym (append_assoc (opened batch) (put (first ∷ fed)) (put rest)))
      | false ↦ (later.0, ap (λ (zs : List Item). with_batch batch first ∷ zs) later.1)
    ]

pub all_served : (n : ℕ) (list : List Item) → 0 < n → Floor last_of n list → (filter was_served list ≡ list) × (filter (λ item. not (was_served item)) list ≡ [])
all_served n [] positive floor = (refl, refl)
all_served n (item ∷ list) positive floor =
    let hit : was_served item ≡ true = lt-ltb 0 item.last (omega (arith, floor.0)) in
    let rest = all_served n list positive floor.1 in (
      cond-true (was_served item) (item ∷ filter was_served list) (filter was_served list) hit ∙ ap (λ (zs : List Item). item ∷ zs) rest.0,
      cond-false (not (was_served item)) (item ∷ filter (λ x. not (was_served x)) list) (filter (λ x. not (was_served x)) list) (not_from_true _ hit) ∙ rest.1,
    )

parts-rises : (batch : List Entry) (list : List Item) → Rises last_of list
    → taken_up batch list true ≡ map (with_batch batch) (filter (λ item. not (was_served item)) list) ++ (opened batch ++ map (with_batch batch) (filter was_served list))
parts-rises batch [] rises = sym (append-nil (opened batch))
parts-rises batch (item ∷ list) rises =
    let put : List Item → List Item = map (with_batch batch) in
    let never : List Item → List Item = filter (λ x. not (was_served x)) in
    elim (cases_Bool (was_served item)) [
      | inl served ↦
          let all = all_served item.last (item ∷ list) (ltb-true 0 item.last served) (omega arith, rises.0) in
          cond-true (was_served item) (opened batch ++ put (item ∷ list)) (with_batch batch item ∷ taken_up batch list true) served
          ∙ (ap (λ (zs : List Item). opened batch ++ put zs) (sym all.0)
          ∙ ap (λ (zs : List Item). put zs ++ (opened batch ++ put (filter was_served (item ∷ list)))) (sym all.1))
      | inr not_served ↦
          cond-false (was_served item) (opened batch ++ put (item ∷ list)) (with_batch batch item ∷ taken_up batch list true) not_served
          ∙ (ap (λ (zs : List Item). with_batch batch item ∷ zs) (parts-rises batch list rises.1)
          ∙ ap (λ b. put (cond (not b) (item ∷ never list) (never list)) ++ (opened batch ++ put (cond b (item ∷ filter was_served list) (filter was_served list)))) (sym not_served))
    ]

-- the list with the batch applied: the items that were never served, the flows that open, and the items that were served
pub after_batch_parts : (batch : List Entry) (list : List Item) → IsInOrder list
    → after_batch batch list ≡ map (with_batch batch) (filter (λ item. not (was_served item)) list) ++ (opened batch ++ map (with_batch batch) (filter was_served list))
after_batch_parts batch list up = sym (taken_up_all batch list up) ∙ parts-rises batch list (rises_from last_of list up)

-- the flows that open are taken up just before this item
pub taken_up_opening : (batch : List Entry) (fed : List Item) (item : Item) → has_served fed ≡ false → was_served item ≡ true
    → taken_up batch (fed ++ item ∷ []) false ≡ taken_up batch fed false ++ opened batch ++ with_batch batch item ∷ []
taken_up_opening batch fed item none served =
    taken_up_more batch fed item
    ∙ ap (λ (zs : List Item). taken_up batch fed false ++ zs ++ with_batch batch item ∷ [])
    (cond-true (not (has_served fed) && was_served item) (opened batch) [] (and_from _ _ (not_from_false _ none) served))

-- they are not: they were before, or this item was never served
pub taken_up_plainly : (batch : List Entry) (fed : List Item) (item : Item) → (not (has_served fed) && was_served item) ≡ false
    → taken_up batch (fed ++ item ∷ []) false ≡ taken_up batch fed false ++ with_batch batch item ∷ []
taken_up_plainly batch fed item plain =
    taken_up_more batch fed item
    ∙ (ap (λ (zs : List Item). taken_up batch fed false ++ zs ++ with_batch batch item ∷ []) (cond-false (not (has_served fed) && was_served item) (opened batch) [] plain)
    ∙ ap (λ (zs : List Item). zs ++ with_batch batch item ∷ []) (append-nil (taken_up batch fed false)))

pub has_served_more : (fed : List Item) (item : Item) → has_served (fed ++ item ∷ []) ≡ (has_served fed || was_served item)
has_served_more [] item = elim (was_served item) as (λ b. (b || false) ≡ b) [
  | true ↦ refl
  | false ↦ refl
]
has_served_more (first ∷ fed) item = elim (was_served first) as (λ b. (b || has_served (fed ++ item ∷ [])) ≡ ((b || has_served fed) || was_served item)) [
  | true ↦ refl
  | false ↦ has_served_more fed item
]
