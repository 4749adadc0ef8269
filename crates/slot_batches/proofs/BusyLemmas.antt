-- Items that need a slot or have a mark, and the places that are noted of them.
use Rattle.std.proofs.Common.{◌≡◌, ◌<◌, ◌+◌, ℕ, zero, suc, List, [], ◌∷◌, ◌++◌, length, take, get_or, set, Bool, true, not, ◌&&◌, ◌==◌, nat_lt, cond, bit_or, sym, ap, ◌∙◌, arith, inl, inr}
use Rattle.std.specs.Int.Bits.{or_zero_r}
use mir.Val.{bool_byte}
use Rattle.std.proofs.Math.Bool.{and-false}
use Rattle.std.proofs.lemmas.Bool.{cases_Bool, cond-true, cond-false}
use Rattle.std.proofs.lemmas.Bool.Decides.{nat_tests}
use Rattle.std.proofs.lemmas.List.{append-nil, take-set, take_more_set}
use Rattle.greedy_rules.specs.declared.flows.Item.{Item}
use Rattle.slot_batches.specs.Woven.{places_from}
use Rattle.slot_batches.proofs.DoubtLemmas.{both_none}

pub one_or_none : (is : Bool) → bool_byte is ≡ cond is 1 0
one_or_none is = elim (cases_Bool is) [
  | inl one ↦ ap bool_byte one ∙ sym (cond-true is 1 0 one)
  | inr none ↦ ap bool_byte none ∙ sym (cond-false is 1 0 none)
]

-- a need and a mark, joined
pub asks : (need mark : ℕ) (marked : Bool) → mark ≡ bool_byte marked → nat_lt 0 (bit_or need mark) ≡ not ((need == 0) && not marked)
asks need mark marked is = elim (cases_Bool marked) [
  | inl yes_it ↦
      let one : mark ≡ 1 = is ∙ (one_or_none marked ∙ cond-true marked 1 0 yes_it) in
      let right : not ((need == 0) && not marked) ≡ true = ap (λ (b : Bool). not ((need == 0) && not b)) yes_it ∙ ap not (and-false (need == 0)) in
      let left : nat_lt 0 (bit_or need mark) ≡ true = elim (cases_Bool (nat_lt 0 (bit_or need mark))) [
        | inl more ↦ more
        | inr none ↦ (let zero_both : bit_or need mark ≡ 0 = grind (arith, nat_tests) in absurd (omega (arith, one, (both_none need mark zero_both).1)))
      ] in
      left ∙ sym right
  | inr not_it ↦
      let none : mark ≡ 0 = is ∙ (one_or_none marked ∙ cond-false marked 1 0 not_it) in
      let left : bit_or need mark ≡ need = ap (bit_or need) none ∙ or_zero_r need in
      grind (arith, nat_tests)
]

-- one item more
noted : (aside : Item → Bool) (k : ℕ) (items : List Item) (at : ℕ) (d : Item) → at < length items
    → places_from aside k (take (suc at) items) ≡ places_from aside k (take at items) ++ cond (aside (get_or items at d)) [] ((k + at) ∷ [])
noted aside k [] at d inside = absurd (omega (arith, inside))
noted aside k (item ∷ items) zero d inside = ap (λ (n : ℕ). cond (aside item) [] (n ∷ [])) (omega arith)
noted aside k (item ∷ items) (suc at) d inside =
    let on : ℕ = k + 1 in
    let last : List ℕ = cond (aside (get_or items at d)) [] ((on + at) ∷ []) in
    let more : places_from aside on (take (suc at) items) ≡ places_from aside on (take at items) ++ last = noted aside on items at d (omega (arith, inside)) in
    let there : on + at ≡ k + suc at = omega arith in
    let all : cond (aside item) (places_from aside on (take at items)) (k ∷ places_from aside on (take at items)) ++ last ≡ places_from aside k (take (suc at) (item ∷ items)) ++ cond (aside (get_or items at d)) [] ((k + suc at) ∷ []) =
    ap (λ (n : ℕ). places_from aside k (take (suc at) (item ∷ items)) ++ cond (aside (get_or items at d)) [] (n ∷ [])) there in
    elim (cases_Bool (aside item)) [
      | inl is ↦
          cond-true (aside item) (places_from aside on (take (suc at) items)) (k ∷ places_from aside on (take (suc at) items)) is
          ∙ (more ∙ (ap (λ (xs : List ℕ). xs ++ last) (sym (cond-true (aside item) (places_from aside on (take at items)) (k ∷ places_from aside on (take at items)) is)) ∙ all))
      | inr not_it ↦
          cond-false (aside item) (places_from aside on (take (suc at) items)) (k ∷ places_from aside on (take (suc at) items)) not_it
          ∙ (ap (λ (xs : List ℕ). k ∷ xs) more
          ∙ (ap (λ (xs : List ℕ). xs ++ last) (sym (cond-false (aside item) (places_from aside on (take at items)) (k ∷ places_from aside on (take at items)) not_it)) ∙ all))
    ]

-- the place of each item is written behind those that are noted, and counts where the item is not set aside
pub step_noted : (aside : Item → Bool) (items : List Item) (places : List ℕ) (count at more : ℕ) (d : Item) → at < length items → count < length places
    → more ≡ cond (not (aside (get_or items at d))) 1 0 → take count places ≡ places_from aside 0 (take at items)
    → take (count + more) (set places count at) ≡ places_from aside 0 (take (at + 1) items)
step_noted aside items places count at more d inside room flag before =
    let item : Item = get_or items at d in
    let on : suc at ≡ at + 1 = omega arith in
    let next : places_from aside 0 (take at items) ++ cond (aside item) [] ((0 + at) ∷ []) ≡ places_from aside 0 (take (at + 1) items) =
    sym (noted aside 0 items at d inside) ∙ ap (λ (n : ℕ). places_from aside 0 (take n items)) on in
    elim (cases_Bool (aside item)) [
      | inl is ↦
          let none : count + more ≡ count = omega (arith, flag ∙ cond-false (not (aside item)) 1 0 (ap not is)) in
          ap (λ (n : ℕ). take n (set places count at)) none
          ∙ (take-set places count at
          ∙ (before ∙ (sym (append-nil (places_from aside 0 (take at items)))
          ∙ (ap (λ (xs : List ℕ). places_from aside 0 (take at items) ++ xs) (sym (cond-true (aside item) [] ((0 + at) ∷ []) is)) ∙ next))))
      | inr not_it ↦
          let one : count + more ≡ count + 1 = omega (arith, flag ∙ cond-true (not (aside item)) 1 0 (ap not not_it)) in
          let here : at ≡ 0 + at = omega arith in
          ap (λ (n : ℕ). take n (set places count at)) one
          ∙ (take_more_set places count at room
          ∙ (ap (λ (xs : List ℕ). xs ++ at ∷ []) before
          ∙ (ap (λ (n : ℕ). places_from aside 0 (take at items) ++ n ∷ []) here
          ∙ (ap (λ (xs : List ℕ). places_from aside 0 (take at items) ++ xs) (sym (cond-false (aside item) [] ((0 + at) ∷ []) not_it)) ∙ next))))
    ]
