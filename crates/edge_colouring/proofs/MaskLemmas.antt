-- Masks of 64 bits, and the lowest core that a mask or two have free.
use Rattle.std.proofs.Common.{◌≡◌, ◌<◌, ◌≤◌, ◌-◌, ◌*◌, ◌%◌, ◌^◌, ℕ, List, get_or, Bool, true, false, ◌==◌, ◌&&◌, cond, min, Option, bit_and, bit_or, w64, refl, sym, ap, ◌∙◌, subst, arith, inl, inr}
use Rattle.std.specs.Int.{bit_at, trailing_zeros}
use Rattle.std.proofs.lemmas.Bool.{cond-true, cond-false, cases_eq, eq-eqb, ne_eqb}
use Rattle.std.proofs.lemmas.Nat.Bits.{bit_at_set_same, bit_at_set_other, bit_at_clear_same, bit_at_clear_other, bit_at-trailing_zeros, bit_at-zero, bit_at_and}
use Rattle.list_facts.proofs.Bools.{bit_test}
use Rattle.edge_colouring.specs.Holders.{Holders, is_free_holder, IsLowest, IsRackOf}

-- the masks of a side: at each rack a bit for each core, 1 where it is free
abbrev pub AreMasks : List ℕ → Holders → Type 0
AreMasks masks holders = (rack core : ℕ) → IsRackOf holders rack → core < 64 → bit_at (get_or masks rack 0) core ≡ cond (is_free_holder holders rack core) 1 0

pub bit_set : (mask at i : ℕ) (bit : Bool) → at < 64 → bit ≡ true → bit_at (bit_or mask (1 * 2 ^ at % 2 ^ 64)) i ≡ cond (i == at) (cond bit 1 0) (bit_at mask i)
bit_set mask at i bit small is =
    elim (cases_eq i at) [
      | inl here ↦
          ap (bit_at (bit_or mask (1 * 2 ^ at % 2 ^ 64))) here
          ∙ (bit_at_set_same w64 mask at small
          ∙ sym (cond-true (i == at) (cond bit 1 0) (bit_at mask i) (eq-eqb i at here) ∙ cond-true bit 1 0 is))
      | inr there ↦ bit_at_set_other w64 mask at small i there ∙ sym (cond-false (i == at) (cond bit 1 0) (bit_at mask i) (ne_eqb i at there))
    ]

pub bit_cleared : (mask at i : ℕ) (bit : Bool) → at < 64 → i < 64 → bit ≡ false → bit_at (bit_and mask (2 ^ 64 - 1 - 1 * 2 ^ at % 2 ^ 64)) i ≡ cond (i == at) (cond bit 1 0) (bit_at mask i)
bit_cleared mask at i bit small below is =
    elim (cases_eq i at) [
      | inl here ↦
          ap (bit_at (bit_and mask (2 ^ 64 - 1 - 1 * 2 ^ at % 2 ^ 64))) here
          ∙ (bit_at_clear_same w64 mask at small
          ∙ sym (cond-true (i == at) (cond bit 1 0) (bit_at mask i) (eq-eqb i at here) ∙ cond-false bit 1 0 is))
      | inr there ↦ bit_at_clear_other w64 mask at small i below there ∙ sym (cond-false (i == at) (cond bit 1 0) (bit_at mask i) (ne_eqb i at there))
    ]

no_bits : trailing_zeros w64 0 ≡ 64
unfolding lib.Count.count_trailing_zeros
no_bits = refl

pub lowest_of : (mask : ℕ) → mask < 2 ^ 64 → IsLowest (λ core. bit_at mask core == 1) (trailing_zeros w64 mask)
lowest_of mask fits =
    elim (cases_eq mask 0) [
      | inl empty ↦ let all : trailing_zeros w64 0 ≡ 64 = no_bits in subst (λ m. IsLowest (λ core. bit_at m core == 1) (trailing_zeros w64 m)) (sym empty) (record {
        bound = omega arith;
        passes = λ lt. absurd (omega arith);
        first = λ k lt. ap (λ (n : ℕ). n == 1) (bit_at-zero k);
      })
      | inr some ↦
          let at = bit_at-trailing_zeros w64 mask (omega arith) fits in
          record {
            bound = omega (arith, at.0);
            passes = λ lt. eq-eqb _ _ at.1;
            first = λ k lt. ap (λ (n : ℕ). n == 1) (at.2 k lt);
          }
    ]

-- two tests that agree on 64 cores have one lowest
pub IsLowest-same : (p q : ℕ → Bool) (core : ℕ) → ((k : ℕ) → k < 64 → p k ≡ q k) → IsLowest p core → IsLowest q core
IsLowest-same p q core agree is = record {
  bound = is.bound;
  passes = λ lt. sym (agree core lt) ∙ is.passes lt;
  first = λ k lt. let b : core ≤ 64 = is.bound in sym (agree k (omega arith)) ∙ is.first k lt;
}

both_test : (a b : Bool) → (min (cond a 1 0) (cond b 1 0) == 1) ≡ (a && b)
both_test true true = refl
both_test true false = refl
both_test false true = refl
both_test false false = refl

pub lowest_free_is : (masks : List ℕ) (H : List (Option ℕ)) (rack core : ℕ) → AreMasks masks H → IsRackOf H rack
    → IsLowest (λ k. bit_at (get_or masks rack 0) k == 1) core → IsLowest (is_free_holder H rack) core
lowest_free_is masks H rack core are below is =
    IsLowest-same (λ k. bit_at (get_or masks rack 0) k == 1) (is_free_holder H rack) core (λ k lt. ap (λ (n : ℕ). n == 1) (are rack k below lt) ∙ bit_test (is_free_holder H rack k)) is

pub lowest_common_is : (masks other_masks : List ℕ) (H other : List (Option ℕ)) (rack other_rack core : ℕ) → AreMasks masks H → AreMasks other_masks other → IsRackOf H rack → IsRackOf other other_rack
    → IsLowest (λ k. bit_at (bit_and (get_or masks rack 0) (get_or other_masks other_rack 0)) k == 1) core → IsLowest (λ k. is_free_holder H rack k && is_free_holder other other_rack k) core
lowest_common_is masks other_masks H other rack other_rack core are others below other_below is =
    IsLowest-same (λ k. bit_at (bit_and (get_or masks rack 0) (get_or other_masks other_rack 0)) k == 1) (λ k. is_free_holder H rack k && is_free_holder other other_rack k) core
    (λ k lt.
    ap (λ (n : ℕ). n == 1) (bit_at_and (get_or masks rack 0) (get_or other_masks other_rack 0) k)
    ∙ (ap (λ (n : ℕ). min n (bit_at (get_or other_masks other_rack 0) k) == 1) (are rack k below lt)
    ∙ (ap (λ (n : ℕ). min (cond (is_free_holder H rack k) 1 0) n == 1) (others other_rack k other_below lt)
    ∙ both_test (is_free_holder H rack k) (is_free_holder other other_rack k)))) is
