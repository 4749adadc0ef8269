-- The bits of a mask that is made of tests, and of one that slides up.
use Rattle.std.proofs.Common.{◌≡◌, ℕ, zero, suc, ◌+◌, ◌-◌, ◌*◌, ◌/◌, ◌%◌, ◌^◌, ◌<◌, ◌≤◌, max, Bool, true, false, cond, nat_lt, ◌==◌, if◌then◌else◌, sym, ◌∙◌, ap, subst, refl, inl, inr, arith, bit_and, bit_or}
use Rattle.std.specs.Int.{bit_at}
use Rattle.std.proofs.Math.Nat.{pow-suc, div-add-mod}
use Rattle.std.proofs.lemmas.Bool.{cond_both, cases_lt, cases_eq, cond-true, cond-false, lt-ltb, le-ltb, eq-eqb, ne_eqb}
use Rattle.std.proofs.lemmas.Bool.Decides.{nat_tests}
use Rattle.std.proofs.lemmas.Nat.Bits.{bit_at-lt, bit_at_cat_low, bit_at_cat_high, bit_at_or, bit_at-pow_same, bit_at-pow_other, bit_at-zero, and_pow, same_from_bits_below}
use Rattle.std.proofs.lemmas.Nat.{one_shl, and_mask}
use Rattle.ack_window.specs.Arrivals.{bits_where}

pub some-pow : (k : ℕ) → 0 < 2 ^ k
some-pow zero = omega arith
some-pow (suc k) = omega (arith, pow-suc 2 k, some-pow k)

pub bits_where-lt : (test : ℕ → Bool) (n : ℕ) → bits_where test n < 2 ^ n
unfolding bits_where
bits_where-lt test zero = omega arith
bits_where-lt test (suc n) =
    let below = bits_where-lt test n in
    cond_both (test n) 1 0 (λ d. d * 2 ^ n + bits_where test n < 2 ^ suc n)
    (λ _. omega (arith, pow-suc 2 n, below))
    (λ _. omega (arith, pow-suc 2 n, below))

bit_at-cond : (b : Bool) → bit_at (cond b 1 0) 0 ≡ cond b 1 0
bit_at-cond true = refl
bit_at-cond false = refl

-- a bit of such a mask is its test
pub bit_at-bits_where : (test : ℕ → Bool) (n i : ℕ) → i < n → bit_at (bits_where test n) i ≡ cond (test i) 1 0
unfolding bits_where
bit_at-bits_where test zero i within = absurd (omega arith)
bit_at-bits_where test (suc n) i within =
    elim (cases_lt i n) [
      | inl below ↦ bit_at_cat_low (cond (test n) 1 0) n (bits_where test n) i below ∙ bit_at-bits_where test n i below
      | inr above ↦
          let here : i ≡ n = omega arith in
          let P : ℕ → Type 0 = λ k. bit_at (cond (test n) 1 0 * 2 ^ n + bits_where test n) k ≡ cond (test k) 1 0 in
          subst P (sym here)
          (bit_at_cat_high (cond (test n) 1 0) n (bits_where test n) n (bits_where-lt test n) (omega arith)
          ∙ ap (λ k. bit_at (cond (test n) 1 0) k) (let e : n - n ≡ 0 = omega arith in e)
          ∙ bit_at-cond (test n))
    ]

-- a mask with the bits of these tests is the mask made of them
pub bits_where-from_bits : (mask : ℕ) (test : ℕ → Bool) (n : ℕ) → mask < 2 ^ n → ((i : ℕ) → i < n → bit_at mask i ≡ cond (test i) 1 0) → mask ≡ bits_where test n
bits_where-from_bits mask test n fits same =
    same_from_bits_below n mask (bits_where test n) fits (bits_where-lt test n) (λ i within. same i within ∙ sym (bit_at-bits_where test n i within))

-- the low bits are kept where a number is cut to w bits
pub bit_at-mod : (n w i : ℕ) → i < w → bit_at (n % 2 ^ w) i ≡ bit_at n i
bit_at-mod n w i within =
    let whole : n / 2 ^ w * 2 ^ w + n % 2 ^ w ≡ n = omega (arith, div-add-mod n (2 ^ w)) in
    sym (bit_at_cat_low (n / 2 ^ w) w (n % 2 ^ w) i within) ∙ ap (λ m. bit_at m i) whole

pub bit_at-shifted_low : (n k i : ℕ) → i < k → bit_at (n * 2 ^ k) i ≡ 0
bit_at-shifted_low n k i below =
    let whole : n * 2 ^ k ≡ n * 2 ^ k + 0 = omega arith in
    ap (λ m. bit_at m i) whole ∙ bit_at_cat_low n k 0 i below ∙ bit_at-zero i

pub bit_at-shifted_high : (n k i : ℕ) → k ≤ i → bit_at (n * 2 ^ k) i ≡ bit_at n (i - k)
bit_at-shifted_high n k i above =
    let whole : n * 2 ^ k ≡ n * 2 ^ k + 0 = omega arith in
    let some : 0 < 2 ^ k = some-pow k in
    ap (λ m. bit_at m i) whole ∙ bit_at_cat_high n k 0 i some above

-- a mask that slides up by `ahead` makes room for a new lowest run of bits
slid_up : (mask below i : ℕ) → i < 128 → bit_at (mask * 2 ^ below % 2 ^ 128 * 2 % 2 ^ 128) i ≡ cond (nat_lt i (below + 1)) 0 (bit_at mask (i - (below + 1)))
slid_up mask below i within =
    let step = mask * 2 ^ below % 2 ^ 128 in
    elim (cases_lt i 1) [
      | inl lowest ↦
          bit_at-mod (step * 2) 128 i within ∙ bit_at-shifted_low step 1 i lowest ∙ sym (cond-true (nat_lt i (below + 1)) 0 (bit_at mask (i - (below + 1))) (lt-ltb i (below + 1) (omega arith)))
      | inr higher ↦
          let cut : i - 1 < 128 = omega arith in
          let first = bit_at-mod (step * 2) 128 i within ∙ bit_at-shifted_high step 1 i higher ∙ bit_at-mod (mask * 2 ^ below) 128 (i - 1) cut in
          elim (cases_lt (i - 1) below) [
            | inl low ↦ first ∙ bit_at-shifted_low mask below (i - 1) low ∙ sym (cond-true (nat_lt i (below + 1)) 0 (bit_at mask (i - (below + 1))) (lt-ltb i (below + 1) (omega arith)))
            | inr high ↦
                let same : i - 1 - below ≡ i - (below + 1) = omega arith in
                first ∙ bit_at-shifted_high mask below (i - 1) high ∙ ap (λ k. bit_at mask k) same
                ∙ sym (cond-false (nat_lt i (below + 1)) 0 (bit_at mask (i - (below + 1))) (le-ltb i (below + 1) (omega arith)))
          ]
    ]

-- the low bits are kept where a mask is cut to span bits
pub bit_at-kept : (mask span ones i : ℕ) → ones ≡ 2 ^ span - 1 → i < span → bit_at (bit_and mask ones) i ≡ bit_at mask i
bit_at-kept mask span ones i is within = ap (λ m. bit_at (bit_and mask m) i) is ∙ ap (λ m. bit_at m i) (and_mask mask span) ∙ bit_at-mod mask span i within

one_bit : (k i : ℕ) → k < 128 → i < 128 → bit_at (1 * 2 ^ k % 2 ^ 128) i ≡ cond (i == k) 1 0
one_bit k i fits within =
    let plain : bit_at (1 * 2 ^ k % 2 ^ 128) i ≡ bit_at (2 ^ k) i = bit_at-mod (1 * 2 ^ k) 128 i within ∙ ap (λ m. bit_at m i) (let e : 1 * 2 ^ k ≡ 2 ^ k = omega arith in e) in
    elim (cases_eq i k) [
      | inl same ↦ plain ∙ ap (λ j. bit_at (2 ^ k) j) same ∙ bit_at-pow_same k ∙ sym (cond-true (i == k) 1 0 (eq-eqb i k same))
      | inr other ↦ plain ∙ bit_at-pow_other k i other ∙ sym (cond-false (i == k) 1 0 (ne_eqb i k other))
    ]

pub bit_at-slid : (mask ahead i : ℕ) → 1 ≤ ahead → ahead ≤ 128 → i < 128 →
    bit_at (bit_or (mask * 2 ^ (ahead - 1) % 2 ^ 128 * 2 % 2 ^ 128) (1 * 2 ^ (ahead - 1) % 2 ^ 128)) i
    ≡ (if i + 1 == ahead then 1 else (if nat_lt i ahead then 0 else bit_at mask (i - ahead)))
bit_at-slid mask ahead i some few within =
    let whole : ahead - 1 + 1 ≡ ahead = omega arith in
    let up : bit_at (mask * 2 ^ (ahead - 1) % 2 ^ 128 * 2 % 2 ^ 128) i ≡ cond (nat_lt i ahead) 0 (bit_at mask (i - ahead)) =
    subst (λ (a : ℕ). bit_at (mask * 2 ^ (ahead - 1) % 2 ^ 128 * 2 % 2 ^ 128) i ≡ cond (nat_lt i a) 0 (bit_at mask (i - a))) whole (slid_up mask (ahead - 1) i within) in
    let one : bit_at (1 * 2 ^ (ahead - 1) % 2 ^ 128) i ≡ cond (i == ahead - 1) 1 0 = one_bit (ahead - 1) i (omega arith) within in
    let both = bit_at_or (mask * 2 ^ (ahead - 1) % 2 ^ 128 * 2 % 2 ^ 128) (1 * 2 ^ (ahead - 1) % 2 ^ 128) i in
    let joined : bit_at (bit_or (mask * 2 ^ (ahead - 1) % 2 ^ 128 * 2 % 2 ^ 128) (1 * 2 ^ (ahead - 1) % 2 ^ 128)) i ≡ max (cond (nat_lt i ahead) 0 (bit_at mask (i - ahead))) (cond (i == ahead - 1) 1 0) =
    both ∙ ap (λ m. max m (bit_at (1 * 2 ^ (ahead - 1) % 2 ^ 128) i)) up ∙ ap (λ m. max (cond (nat_lt i ahead) 0 (bit_at mask (i - ahead))) m) one in
    joined ∙ by_place mask ahead i some (bit_at-lt mask (i - ahead))
  where
    by_place : (mask ahead i : ℕ) → 1 ≤ ahead → bit_at mask (i - ahead) < 2 → max (cond (nat_lt i ahead) 0 (bit_at mask (i - ahead))) (cond (i == ahead - 1) 1 0) ≡ (if i + 1 == ahead then 1 else (if nat_lt i ahead then 0 else bit_at mask (i - ahead)))
    by_place mask ahead i some small = grind (arith, nat_tests)

-- and by one place
pub bit_at-slid_once : (mask i : ℕ) → mask < 2 ^ 128 → i < 128 →
    bit_at (bit_or (mask * 2 % 2 ^ 128) 1) i ≡ (if i + 1 == 1 then 1 else (if nat_lt i 1 then 0 else bit_at mask (i - 1)))
bit_at-slid_once mask i fits within =
    let whole : mask * 2 ^ (1 - 1) % 2 ^ 128 ≡ mask = omega arith in
    ap (λ m. bit_at (bit_or (m * 2 % 2 ^ 128) 1) i) (sym whole) ∙ bit_at-slid mask 1 i (omega arith) (omega arith) within

-- the test `mask & (1 << k) != 0`
pub bit_at-tested : (mask k : ℕ) → k < 128 → (bit_and mask (1 * 2 ^ k % 2 ^ 128) ≡ 0 → ⊥) → bit_at mask k ≡ 1
bit_at-tested mask k within set =
    let tested : bit_and mask (1 * 2 ^ k % 2 ^ 128) ≡ bit_at mask k * 2 ^ k = ap (λ m. bit_and mask m) (one_shl k 128 within) ∙ and_pow mask k in
    elim (cases_eq (bit_at mask k) 0) [
      | inl clear ↦ absurd (set (tested ∙ ap (λ b. b * 2 ^ k) clear ∙ (let e : 0 * 2 ^ k ≡ 0 = omega arith in e)))
      | inr other ↦ omega (arith, bit_at-lt mask k)
    ]

pub bit_at-tested_clear : (mask k : ℕ) → k < 128 → bit_and mask (1 * 2 ^ k % 2 ^ 128) ≡ 0 → bit_at mask k ≡ 0
bit_at-tested_clear mask k within clear =
    let tested : bit_at mask k * 2 ^ k ≡ 0 = sym (ap (λ m. bit_and mask m) (one_shl k 128 within) ∙ and_pow mask k) ∙ clear in
    elim (cases_eq (bit_at mask k) 0) [
      | inl it ↦ it
      | inr other ↦
          let one : bit_at mask k ≡ 1 = omega (arith, bit_at-lt mask k) in
          let power : 2 ^ k ≡ 0 = sym (let e : 1 * 2 ^ k ≡ 2 ^ k = omega arith in e) ∙ sym (ap (λ b. b * 2 ^ k) one) ∙ tested in
          absurd (omega (arith, some-pow k))
    ]
