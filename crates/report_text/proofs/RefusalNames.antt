-- No two refusals have one name: each name stands first at its own number.
use Rattle.std.proofs.Common.{◌≡◌, ◌+◌, ◌-◌, ◌<◌, ◌≤◌, ℕ, List, Bool, true, eqb, get_or, refl, sym, ap, ◌∙◌, inl, inr, arith}
use Rattle.std.specs.List.{position_or_len, list_all, range_with_len}
use Rattle.std.specs.Cmp.Lexicographic.{pointwise}
use Rattle.std.proofs.lemmas.Bool.{cases_Bool, eqb-true}
use Rattle.std.proofs.lemmas.List.Folds.{list_all_at}
use Rattle.std.proofs.lemmas.List.FromFn.{length-range_with_len, get_or-range_with_len}
use Rattle.report_text.specs.Names.{answer_names, answer_name, IsRefusal}

-- where a name stands first
abbrev place_of : List ℕ → ℕ
place_of name = position_or_len (λ (text : List ℕ). pointwise eqb text name) answer_names

abbrev is_placed : ℕ → Bool
is_placed number = eqb (place_of (answer_name number)) number

all_placed : (list_all is_placed (range_with_len 1 12) ≡ true) × (list_all is_placed (range_with_len 21 4) ≡ true) × (is_placed 26 ≡ true)
unfolding answer_name
all_placed = (refl, refl, refl)

placed_in : (from count number : ℕ) → list_all is_placed (range_with_len from count) ≡ true → from ≤ number → number < from + count → is_placed number ≡ true
placed_in from count number all least most =
    let within : number - from < count = omega arith in
    let is : get_or (range_with_len from count) (number - from) 0 ≡ number = get_or-range_with_len from count (number - from) 0 within ∙ omega arith in
    elim (cases_Bool (is_placed number)) [
      | inl here ↦ here
      | inr other ↦
          let none = list_all_at is_placed (range_with_len from count) (number - from) 0 (omega (arith, length-range_with_len from count)) (ap is_placed is ∙ other) in
          absurd cc
    ]

placed : (number : ℕ) → IsRefusal number → place_of (answer_name number) ≡ number
placed number (inl low) = eqb-true _ _ (placed_in 1 12 number all_placed.0 low.0 (omega (arith, low.1)))
placed number (inr (inl high)) = eqb-true _ _ (placed_in 21 4 number all_placed.1 high.0 (omega (arith, high.1)))
placed number (inr (inr last)) = rw last (eqb-true _ _ all_placed.2)

pub one_name : (m n : ℕ) → IsRefusal m → IsRefusal n → answer_name m ≡ answer_name n → m ≡ n
one_name m n first second same = sym (placed m first) ∙ ap place_of same ∙ placed n second

-- refusals have numbers from 1 to 26
pub refusal_below : (number : ℕ) → IsRefusal number → (1 ≤ number) × (number < 27)
refusal_below number (inl low) = (low.0, omega (arith, low.1))
refusal_below number (inr (inl high)) = (omega (arith, high.0), omega (arith, high.1))
refusal_below number (inr (inr last)) = (omega arith, omega arith)
