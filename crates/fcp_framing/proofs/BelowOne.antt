-- A mask stands for a number below 1 exactly where its highest bit does.
use Rattle.std.proofs.Common.{◌≡◌, ℕ, suc, ◌+◌, ◌*◌, ◌/◌, ◌^◌, ◌<◌, ◌≤◌, Bool, true, false, eqb, leb, ◌&&◌, get_or, refl, ap, ◌∙◌, inl, inr, ◌⊎◌, arith}
use Rattle.std.specs.Int.{bit_at, IsBitSet}
use Rattle.std.specs.Int.RustNames.{bit_and}
use Rattle.std.specs.List.{range_with_len}
use Rattle.std.proofs.Math.Bool.{and-false}
use Rattle.std.proofs.Math.Nat.{div-eq_of_lt, div-eq_of_lt-le, pow-le-pow_right, pow-suc, one-le-pow, zero-div}
use Rattle.std.proofs.lemmas.Bool.{le-leb, lt-leb, leb-false, cases_lt, cases_eq, ne_eqb}
use Rattle.std.proofs.lemmas.List.Folds.{list_any_none, list_any_at}
use Rattle.std.proofs.lemmas.List.FromFn.{length-range_with_len, get_or-range_with_len}
use Rattle.std.proofs.lemmas.Nat.Bits.{and_pow}
use Rattle.list_facts.proofs.Numbers.{bit_at-set}
use Rattle.fcp_framing.specs.Spelling.{IsMask}
use Rattle.fcp_framing.specs.Refusals.{names_below_one}
use Rattle.fcp_framing.proofs.Finding.{none_of_any}

-- bit i of the mask is set, for a number below 1
abbrev pub is_low : ℕ → ℕ → ℕ → Bool
is_low high mask i = eqb (bit_at mask i) 1 && leb high (i + 1)

bit_at-above : (mask top i : ℕ) → mask < 2 * 2 ^ top → top < i → bit_at mask i ≡ 0
bit_at-above mask top i lt above =
    let powers : 2 ^ suc top ≤ 2 ^ i = pow-le-pow_right (omega arith) (omega arith) in
    let none : mask / 2 ^ i ≡ 0 = div-eq_of_lt (omega (arith, pow-suc 2 top)) in
    rw none refl

bit_at-top : (mask top : ℕ) → 2 ^ top ≤ mask → mask < 2 * 2 ^ top → bit_at mask top ≡ 1
bit_at-top mask top le lt =
    let one : mask / 2 ^ top ≡ 1 = div-eq_of_lt-le (2 ^ top) (omega arith) (omega arith) in
    rw one refl

-- where the highest bit stands for a number of at least 1, each does
none_low : (high mask top : ℕ) → mask < 2 * 2 ^ top → top + 1 < high → names_below_one high mask ≡ false
unfolding names_below_one
none_low high mask top lt below =
    list_any_none (is_low high mask) (range_with_len 0 128) (λ k d within.
    let inside : k < 128 = omega (arith, length-range_with_len 0 128) in
    let is : get_or (range_with_len 0 128) k d ≡ 0 + k = get_or-range_with_len 0 128 k d inside in
    rw is (each_low k (cases_lt top k)))
  where
    each_low : (k : ℕ) → (top < k) ⊎ (k ≤ top) → is_low high mask (0 + k) ≡ false
    each_low k (inl above) = rw (bit_at-above mask top (0 + k) lt (omega arith)) refl
    each_low k (inr le) = rw (lt-leb high (0 + k + 1) (omega arith)) (and-false _)

top_low : (high mask top : ℕ) → top < 128 → 2 ^ top ≤ mask → mask < 2 * 2 ^ top → high ≤ top + 1 → names_below_one high mask ≡ true
unfolding names_below_one
top_low high mask top within le lt low =
    let is : get_or (range_with_len 0 128) top 0 ≡ 0 + top = get_or-range_with_len 0 128 top 0 within in
    let same : 0 + top ≡ top = omega arith in
    list_any_at (is_low high mask) (range_with_len 0 128) top 0 (omega (arith, length-range_with_len 0 128))
    (rw (is, same, bit_at-top mask top le lt, le-leb high (top + 1) low) refl)

-- the test of the highest bit
pub highest_tells : (high mask top : ℕ) → top < 128 → 2 ^ top ≤ mask → mask < 2 * 2 ^ top → leb high (top + 1) ≡ names_below_one high mask
highest_tells high mask top within le lt = by_height (cases_lt (top + 1) high)
  where
    by_height : (top + 1 < high) ⊎ (high ≤ top + 1) → leb high (top + 1) ≡ names_below_one high mask
    by_height (inl below) = rw (lt-leb high (top + 1) below, none_low high mask top lt below) refl
    by_height (inr low) = rw (le-leb high (top + 1) low, top_low high mask top within le lt low) refl

pub zero_tells : (high : ℕ) → names_below_one high 0 ≡ false
unfolding names_below_one
zero_tells high =
    list_any_none (is_low high 0) (range_with_len 0 128) (λ k d within. rw zero-div refl)

-- ---- the test and the rule

set_bit : (mask i : ℕ) → bit_at mask i ≡ 1 → IsBitSet mask i
set_bit mask i one clear =
    let power : 1 ≤ 2 ^ i = one-le-pow i 2 (omega arith) in
    let is : bit_and mask (2 ^ i) ≡ 2 ^ i = and_pow mask i ∙ ap (λ (b : ℕ). b * 2 ^ i) one ∙ omega arith in
    omega arith

pub mask_rule : (high mask : ℕ) → mask < 2 ^ 128 → names_below_one high mask ≡ false → IsMask high mask
unfolding names_below_one
mask_rule high mask fits none i set =
    elim (cases_lt i 128) [
      | inl within ↦
          let here : is_low high mask (get_or (range_with_len 0 128) i 0) ≡ false = none_of_any (is_low high mask) (range_with_len 0 128) none i 0 (omega (arith, length-range_with_len 0 128)) in
          let is : get_or (range_with_len 0 128) i 0 ≡ i = get_or-range_with_len 0 128 i 0 within ∙ omega arith in
          let low : is_low high mask i ≡ false = rw is at here in
          let one = bit_at-set mask i set in
          let test : leb high (i + 1) ≡ false = rw one at low in
          leb-false _ _ test
      | inr past ↦
          let clear = bit_at-above mask 127 i (omega arith) (omega arith) in
          let one = bit_at-set mask i set in
          absurd (omega arith)
    ]

pub mask_test : (high mask : ℕ) → IsMask high mask → names_below_one high mask ≡ false
unfolding names_below_one
mask_test high mask rule =
    list_any_none (is_low high mask) (range_with_len 0 128) (λ k d within. each (get_or (range_with_len 0 128) k d))
  where
    each : (i : ℕ) → is_low high mask i ≡ false
    each i = elim (cases_eq (bit_at mask i) 1) [
      | inl one ↦ rw (lt-leb high (i + 1) (rule i (set_bit mask i one))) (and-false _)
      | inr other ↦ rw (ne_eqb (bit_at mask i) 1 other) refl
    ]
