use Rattle.std.proofs.Common.{◌≡◌, ◌<◌, ◌-◌, ◌^◌, ◌&&◌, ◌||◌, ◌==◌, ℕ, Bool, true, false, not, ◌⊎◌, bit_and, refl, sym, ap, ◌∙◌, inl, inr}
use Rattle.std.proofs.lemmas.Bool.{cases_eq, eqb-true, ne_eqb}
use Rattle.endpoint_bitmaps.specs.Slots.{has_slot}
use Rattle.endpoint_bitmaps.proofs.Facts.{has_slot-none}
use Rattle.endpoint_bitmaps.proofs.WordLemmas.{has_slot-without}
use Rattle.window_allocation.proofs.reach.is_out.Goals as goal

named_there : (all named : Bool) → all ≡ true → (all && not named) ≡ false → named ≡ true
named_there true true has left = refl
named_there true false has left = sym left
named_there false named has left = cc

-- where no slot of a word is left without another's, the other has all of its slots
covers : (all named at : ℕ) → all < 2 ^ 64 → named < 2 ^ 64 → bit_and all (2 ^ 64 - 1 - named) ≡ 0 → has_slot all at ≡ true → has_slot named at ≡ true
covers all named at all_fits named_fits none has =
    let left : (has_slot all at && not (has_slot named at)) ≡ false = sym (has_slot-without all named at all_fits named_fits) ∙ (ap (λ (w : ℕ). has_slot w at) none ∙ has_slot-none at) in
    named_there (has_slot all at) (has_slot named at) has left

-- one of two numbers is 0
either_is_none : (free need : ℕ) → ((free == 0) || (need == 0)) ≡ true → (need ≡ 0) ⊎ (free ≡ 0)
either_is_none free need none = elim (cases_eq free 0) [
  | inl nothing ↦ inr nothing
  | inr some ↦ inl (eqb-true need 0 (sym (ap (λ (b : Bool). b || (need == 0)) (ne_eqb free 0 some)) ∙ none))
]

pub returns : goal.returns
returns c = λ none count has.
    let free : ℕ = bit_and c.args.all (18446744073709551615 - c.either.result) in
    elim (either_is_none free c.args.item.now.need none) [
      | inl nothing ↦ inl nothing
      | inr left ↦ inr (λ at below. sym (c.either.ensures at) ∙ covers c.args.all c.either.result at c.ranges.all.fits c.either.type_inv left (has at below))
    ]
