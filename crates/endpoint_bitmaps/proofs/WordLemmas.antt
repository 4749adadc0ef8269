-- Words as sets of slots: both of two, one without another, without its lowest, the first ones, and how many.
use Rattle.std.proofs.Common.{◌≡◌, ◌≢◌, ◌<◌, ◌≤◌, ◌+◌, ◌-◌, ◌/◌, ◌%◌, ◌^◌, ℕ, zero, suc, Bool, true, false, not, ◌==◌, ◌&&◌, nat_lt, cond, bit_and, count_ones, w64, pow-suc, refl, sym, ap, ◌∙◌, arith, inl, inr}
use Rattle.std.specs.Int.{bit_at, trailing_zeros}
use Rattle.std.specs.Int.Count.{ones_step}
use Rattle.std.proofs.lemmas.Bool.{cases_lt, and_left, and_right, lt-ltb, le-ltb, eq-eqb, ne_eqb, both_ways}
use Rattle.std.proofs.lemmas.Nat.Bits.{bit_at-lt, bit_at_lowest, bit_at-suc, bit_at-zero, bit_at_and, bit_at_not, bit_at_above, bit_at_ones, bit_at_ones_above, bit_at-trailing_zeros}
use Rattle.list_facts.proofs.Numbers.{both_bits}
use Rattle.list_facts.proofs.Bits.{bit-without_lowest}
use Rattle.std.proofs.Math.Bool.{and-true}
use Rattle.endpoint_bitmaps.specs.Slots.{has_slot, count_below}
use Rattle.endpoint_bitmaps.proofs.CountLemmas.{count_below-same, count_below-more}

other_bit : (x : ℕ) → x < 2 → (1 - x == 1) ≡ not (x == 1)
other_bit zero is = refl
other_bit (suc zero) is = refl
other_bit (suc (suc x)) is = absurd (omega arith)

bit_counts : (x : ℕ) → x < 2 → cond (x == 1) 1 0 ≡ x
bit_counts zero is = refl
bit_counts (suc zero) is = refl
bit_counts (suc (suc x)) is = absurd (omega arith)

pub has_slot-both : (a b k : ℕ) → has_slot (bit_and a b) k ≡ (has_slot a k && has_slot b k)
has_slot-both a b k = ap (λ (n : ℕ). n == 1) (bit_at_and a b k) ∙ both_bits (bit_at a k) (bit_at b k) (bit_at-lt a k) (bit_at-lt b k)

pub has_slot-above : (a k : ℕ) → a < 2 ^ 64 → 64 ≤ k → has_slot a k ≡ false
has_slot-above a k fits from = ap (λ (n : ℕ). n == 1) (bit_at_above a 64 k fits from)

pub has_slot-without : (a b k : ℕ) → a < 2 ^ 64 → b < 2 ^ 64 → has_slot (bit_and a (2 ^ 64 - 1 - b)) k ≡ (has_slot a k && not (has_slot b k))
has_slot-without a b k a_fits b_fits =
    has_slot-both a (2 ^ 64 - 1 - b) k
    ∙ elim (cases_lt k 64) [
      | inl below ↦ ap (λ (n : ℕ). has_slot a k && (n == 1)) (bit_at_not w64 b k b_fits below) ∙ ap (λ (t : Bool). has_slot a k && t) (other_bit (bit_at b k) (bit_at-lt b k))
      | inr from ↦ and_left _ _ (has_slot-above a k a_fits from) ∙ sym (and_left _ _ (has_slot-above a k a_fits from))
    ]

pub has_slot-first : (n k : ℕ) → has_slot (2 ^ n - 1) k ≡ nat_lt k n
has_slot-first n k = elim (cases_lt k n) [
  | inl below ↦ ap (λ (m : ℕ). m == 1) (bit_at_ones n k below) ∙ sym (lt-ltb k n below)
  | inr from ↦ ap (λ (m : ℕ). m == 1) (bit_at_ones_above n k from) ∙ sym (le-ltb k n from)
]

pub has_slot-none : (k : ℕ) → has_slot 0 k ≡ false
has_slot-none k = ap (λ (n : ℕ). n == 1) (bit_at-zero k)

pub count_ones_is : (w n : ℕ) → n < 2 ^ w → count_ones n ≡ count_below (has_slot n) w
unfolding lib.Count.ones
count_ones_is zero n fits = let none : n ≡ 0 = omega arith in ap count_ones none
count_ones_is (suc w) n fits =
    let lowest : cond (has_slot n 0) 1 0 ≡ n % 2 = bit_counts (bit_at n 0) (bit_at-lt n 0) ∙ bit_at_lowest n in
    let same = count_below-same (λ k. has_slot n (suc k)) (has_slot (n / 2)) w (λ k below. ap (λ (m : ℕ). m == 1) (bit_at-suc n k)) in
    omega (arith, ones_step n, count_ones_is w (n / 2) (omega (arith, pow-suc 2 w)), lowest, same)

-- the lowest slot of a word
pub lowest_is : (rest : ℕ) → rest < 2 ^ 64 → rest ≢ 0 → has_slot rest (trailing_zeros w64 rest) ≡ true
lowest_is rest fits some = ap (λ (n : ℕ). n == 1) (bit_at-trailing_zeros w64 rest (omega (arith, some)) fits).1

pub without_lowest : (rest k : ℕ) → rest < 2 ^ 64 → rest ≢ 0 → has_slot (bit_and rest (rest - 1)) k ≡ (has_slot rest k && not (k == trailing_zeros w64 rest))
without_lowest rest k fits some =
    let at = bit_at-trailing_zeros w64 rest (omega (arith, some)) fits in
    bit-without_lowest rest (trailing_zeros w64 rest) k at.1 at.2

-- one less where one that passes is left out
count_less : (p : ℕ → Bool) (n t : ℕ) → t < n → p t ≡ true → count_below (λ k. p k && not (k == t)) n + 1 ≡ count_below p n
count_less p zero t below passes = absurd (omega (arith, below))
count_less p (suc n) t below passes =
    let q : ℕ → Bool = λ k. p k && not (k == t) in
    let one : Bool → ℕ = λ b. cond b 1 0 in
    let more : count_below p (suc n) ≡ count_below p n + one (p n) = count_below-more p n in
    let less : count_below q (suc n) ≡ count_below q n + one (q n) = count_below-more q n in
    elim (cases_lt t n) [
      | inl before ↦
          let same : q n ≡ p n = ap (λ (b : Bool). p n && not b) (ne_eqb n t (λ is. absurd (omega (arith, is, before)))) ∙ and-true (p n) in
          let as_before : one (q n) ≡ one (p n) = ap one same in
          let so_far = count_less p n t before passes in
          omega (arith, more, less, so_far, as_before)
      | inr from ↦
          let is : n ≡ t = omega (arith, from, below) in
          let there : one (p n) ≡ 1 = ap (λ (k : ℕ). one (p k)) is ∙ ap one passes in
          let out : one (q n) ≡ 0 = ap one (and_right (p n) _ (ap not (eq-eqb n t is))) in
          let before = count_below-same q p n (λ k under. ap (λ (b : Bool). p k && not b) (ne_eqb k t (λ same. absurd (omega (arith, same, is, under)))) ∙ and-true (p k)) in
          omega (arith, more, less, before, there, out)
    ]

-- a word without its lowest slot has one less
pub ones_without_lowest : (rest : ℕ) → rest < 2 ^ 64 → bit_and rest (rest - 1) < 2 ^ 64 → rest ≢ 0 → count_ones (bit_and rest (rest - 1)) + 1 ≡ count_ones rest
ones_without_lowest rest fits less_fits some =
    let t : ℕ = trailing_zeros w64 rest in
    let here = lowest_is rest fits some in
    let within : t < 64 = elim (cases_lt t 64) [
      | inl below ↦ below
      | inr above ↦ absurd (both_ways (has_slot rest t) (has_slot-above rest t fits above) here)
    ] in
    let same = count_below-same (has_slot (bit_and rest (rest - 1))) (λ k. has_slot rest k && not (k == t)) 64 (λ k below. without_lowest rest k fits some) in
    omega (arith, count_ones_is 64 rest fits, count_ones_is 64 (bit_and rest (rest - 1)) less_fits, same, count_less (has_slot rest) 64 t within here)
