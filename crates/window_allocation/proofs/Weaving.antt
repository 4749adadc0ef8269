-- A list that is woven: what is set aside, the two parts of a list in order, and what is picked.
use Rattle.std.proofs.Common.{◌≡◌, ◌<◌, ◌≤◌, ℕ, zero, suc, List, [], ◌∷◌, ◌++◌, length, take, drop, get_or, Bool, true, false, not, ◌==◌, cond, All, refl, sym, ap, ◌∙◌, arith, inl, inr}
use Rattle.std.specs.List.{AllWithin}
use Rattle.std.proofs.lemmas.Bool.{cond-true, cond-false, cases_Bool, ltb-true, ne_eqb}
use Rattle.std.proofs.lemmas.Bool.Decides.{nat_tests}
use Rattle.std.proofs.lemmas.List.Elements.{All-head, All-tail, All-filter}
use Rattle.std.proofs.lemmas.List.{append-nil, append_assoc}
use Rattle.greedy_rules.specs.declared.flows.Item.{Item}
use Rattle.slot_batches.specs.Feeding.{IsInOrder, was_served}
use Rattle.slot_batches.specs.Woven.{picked, weave, never_served, once_served, woven}
use Rattle.slot_batches.proofs.WeaveLemmas.{is_set_aside}

-- all of a run that is set aside come next
pub run_aside : (aside : Item → Bool) (few list rest : List Item) → All (λ item. aside item ≡ true) few → weave aside (few ++ list) rest ≡ few ++ weave aside list rest
run_aside aside [] list rest all = refl
run_aside aside (item ∷ few) list rest all =
    is_set_aside aside item (few ++ list) rest (All-head (λ x. aside x ≡ true) item few all)
    ∙ ap (λ (xs : List Item). item ∷ xs) (run_aside aside few list rest (All-tail (λ x. aside x ≡ true) item few all))

-- the items that were served begin where the others end
pub parts_at : (xs : List Item) (k : ℕ) → k ≤ length xs → AllWithin (λ item. (item.last == 0) ≡ true) xs 0 k → AllWithin (λ item. (item.last == 0) ≡ false) xs k (length xs)
    → (take k xs ≡ never_served xs) × (drop k xs ≡ once_served xs)
parts_at [] zero within low high = (refl, refl)
parts_at [] (suc k) within low high = absurd (omega arith)
parts_at (x ∷ xs) zero within low high =
    let served : was_served x ≡ true = (let h : (x.last == 0) ≡ false = high 0 x (omega arith) (omega arith) in grind (arith, nat_tests)) in
    let rest = parts_at xs zero (omega arith) (λ i d from to. absurd (omega arith)) (λ i d from to. high (suc i) d (omega arith) (omega arith)) in (
      rest.0 ∙ sym (cond-false (not (was_served x)) (x ∷ never_served xs) (never_served xs) (ap not served)),
      ap (λ (ys : List Item). x ∷ ys) rest.1 ∙ sym (cond-true (was_served x) (x ∷ once_served xs) (once_served xs) served),
    )
parts_at (x ∷ xs) (suc k) within low high =
    let new : was_served x ≡ false = (let h : (x.last == 0) ≡ true = low 0 x (omega arith) (omega arith) in grind (arith, nat_tests)) in
    let rest = parts_at xs k (omega arith) (λ i d from to. low (suc i) d (omega arith) (omega arith)) (λ i d from to. high (suc i) d (omega arith) (omega arith)) in (
      ap (λ (ys : List Item). x ∷ ys) rest.0 ∙ sym (cond-true (not (was_served x)) (x ∷ never_served xs) (never_served xs) (ap not new)),
      rest.1 ∙ sym (cond-false (was_served x) (x ∷ once_served xs) (once_served xs) new),
    )

-- of items that are all set aside none is picked
pub none_picked : (aside : Item → Bool) (items : List Item) → All (λ item. aside item ≡ true) items → picked aside items ≡ []
none_picked aside [] all = refl
none_picked aside (item ∷ items) all =
    cond-false (not (aside item)) (item ∷ picked aside items) (picked aside items) (ap not (All-head (λ x. aside x ≡ true) item items all))
    ∙ none_picked aside items (All-tail (λ x. aside x ≡ true) item items all)

pub parts_in_order : (xs : List Item) → IsInOrder xs → xs ≡ never_served xs ++ once_served xs
parts_in_order [] up = refl
parts_in_order (x ∷ xs) up =
    elim (cases_Bool (was_served x)) [
      | inl served ↦
          let positive : 0 < x.last = ltb-true _ _ served in
          let all = parts_at (x ∷ xs) zero (omega arith) (λ i d from to. absurd (omega arith))
          (λ i d from to. let above : x.last ≤ (get_or (x ∷ xs) i d).last = up 0 i d (omega arith) to in ne_eqb _ _ (λ e. omega arith)) in
          all.1 ∙ ap (λ (ys : List Item). ys ++ once_served (x ∷ xs)) all.0
      | inr new ↦
          ap (λ (ys : List Item). x ∷ ys) (parts_in_order xs (λ i j d le within. up (suc i) (suc j) d (omega arith) (omega arith)))
          ∙ ap (λ b. cond (not b) (x ∷ never_served xs) (never_served xs) ++ cond b (x ∷ once_served xs) (once_served xs)) (sym new)
    ]

-- behind a list of which all is set aside comes the rest
pub followed : (aside : Item → Bool) (list rest : List Item) → All (λ item. aside item ≡ true) list → weave aside list rest ≡ list ++ rest
followed aside list rest all = ap (λ (xs : List Item). weave aside xs rest) (sym (append-nil list)) ∙ run_aside aside list [] rest all

-- where all of the rest was served, it follows the whole list
pub rest_follows : (aside : Item → Bool) (list rest : List Item) → All (λ item. aside item ≡ true) list → IsInOrder list → take 0 rest ≡ never_served rest → drop 0 rest ≡ once_served rest
    → list ++ rest ≡ woven aside list rest
rest_follows aside list rest all up no_new all_old =
    let first : weave aside (never_served list) (never_served rest) ≡ never_served list =
    ap (weave aside (never_served list)) (sym no_new)
    ∙ (followed aside (never_served list) [] (All-filter (λ item. not (was_served item)) (λ item. aside item ≡ true) list all) ∙ append-nil (never_served list)) in
    let second : weave aside (once_served list) (once_served rest) ≡ once_served list ++ rest =
    ap (weave aside (once_served list)) (sym all_old) ∙ followed aside (once_served list) rest (All-filter was_served (λ item. aside item ≡ true) list all) in
    ap (λ (xs : List Item). xs ++ rest) (parts_in_order list up)
    ∙ (append_assoc (never_served list) (once_served list) rest
    ∙ sym (ap (λ (xs : List Item). xs ++ weave aside (once_served list) (once_served rest)) first ∙ ap (λ (xs : List Item). never_served list ++ xs) second))
