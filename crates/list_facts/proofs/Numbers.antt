-- Numbers.
use Rattle.std.proofs.Common.{◌≡◌, ℕ, ◌*◌, ◌^◌, ◌∙◌, ap, inl, inr, arith, ◌<◌, zero, suc, ◌==◌, ◌&&◌, min, refl, ◌+◌, ◌-◌, ◌≤◌}
use Rattle.std.proofs.lemmas.Bool.{cases_eq}
use Rattle.std.proofs.lemmas.Nat.Bits.{bit_at-lt, and_pow}
use Rattle.std.proofs.lemmas.Nat.{mul-le}
use Rattle.std.specs.Int.{bit_at, IsBitSet}

pub bit_at-set : (mask k : ℕ) → IsBitSet mask k → bit_at mask k ≡ 1
bit_at-set mask k set =
    elim (cases_eq (bit_at mask k) 0) [
      | inl clear ↦ absurd (set (and_pow mask k ∙ ap (λ b. b * 2 ^ k) clear ∙ (let e : 0 * 2 ^ k ≡ 0 = omega arith in e)))
      | inr other ↦ omega (arith, bit_at-lt mask k)
    ]

pub both_bits : (x y : ℕ) → x < 2 → y < 2 → (min x y == 1) ≡ ((x == 1) && (y == 1))
both_bits zero zero x_is y_is = refl
both_bits zero (suc zero) x_is y_is = refl
both_bits zero (suc (suc y)) x_is y_is = absurd (omega arith)
both_bits (suc zero) zero x_is y_is = refl
both_bits (suc zero) (suc zero) x_is y_is = refl
both_bits (suc zero) (suc (suc y)) x_is y_is = absurd (omega arith)
both_bits (suc (suc x)) y x_is y_is = absurd (omega arith)

pub slots_on : (k b : ℕ) → k * b + 1 + b ≡ (k + 1) * b + 1
slots_on k b = grind arith

pub rows_on : (p n b : ℕ) → (p + n) * b ≡ p * b + n * b
rows_on p n b = grind arith

-- no more pairs of two than pairs
pub fewer_pairs : (n : ℕ) → n * (n - 1) ≤ n * n
fewer_pairs n = mul-le n (n - 1) n n (omega arith) (omega arith)
