-- Places as bits of words: every place, and the first from a place on.
use Rattle.std.proofs.Common.{◌≡◌, ◌≢◌, ◌<◌, ◌≤◌, ◌+◌, ◌-◌, ◌*◌, ◌/◌, ◌%◌, ◌^◌, ◌==◌, ◌∷◌, [], ℕ, suc, zero, List, get_or, true, false, min, bit_and, w64, refl, sym, ap, ◌∙◌, arith, inl, inr}
use Rattle.std.specs.Int.{bit_at, trailing_zeros}
use Rattle.std.proofs.lemmas.Bool.{cases_lt}
use Rattle.std.proofs.lemmas.Nat.Bits.{bit_at_and, bit_at-lt, bit_at-zero, bit_at_ones, bit_at_mask_inside, bit_at_mask_below, bit_at-trailing_zeros, ones_shl}
use Rattle.list_facts.specs.Bits.{names_place}
use Rattle.list_facts.proofs.Bits.{bit_of_word}

-- ---- every place

pub every_bit : (place : ℕ) → place < 256 → names_place ((2 ^ 64 - 1) ∷ (2 ^ 64 - 1) ∷ (2 ^ 64 - 1) ∷ (2 ^ 64 - 1) ∷ []) place ≡ true
every_bit place below =
    ap (λ (n : ℕ). bit_at n (place % 64) == 1) (each (place / 64) (omega (arith, below)))
    ∙ ap (λ (n : ℕ). n == 1) (bit_at_ones 64 (place % 64) (omega arith))
  where
    each : (word : ℕ) → word < 4 → get_or ((2 ^ 64 - 1) ∷ (2 ^ 64 - 1) ∷ (2 ^ 64 - 1) ∷ (2 ^ 64 - 1) ∷ []) word 0 ≡ 2 ^ 64 - 1
    each zero is = refl
    each (suc zero) is = refl
    each (suc (suc zero)) is = refl
    each (suc (suc (suc zero))) is = refl
    each (suc (suc (suc (suc word)))) is = absurd (omega (arith, is))

-- ---- the first from a place on

-- the bits of a word from a place on are looked at, and no earlier word has one
pub record IsSearched (words : List ℕ) (at word mask : ℕ) : Type 0 where
  pub begun : at / 64 ≤ word
  pub inside : (bit : ℕ) → bit < 64 → at ≤ word * 64 + bit → bit_at mask bit ≡ 1
  pub before : (bit : ℕ) → bit < 64 → word * 64 + bit < at → bit_at mask bit ≡ 0
  pub none : (place : ℕ) → at ≤ place → place < word * 64 → names_place words place ≡ false

pub search_begins : (words : List ℕ) (at : ℕ) → IsSearched words at (at / 64) ((2 ^ 64 - 1) * 2 ^ (at % 64) % 2 ^ 64)
search_begins words at =
    let mask : (2 ^ 64 - 1) * 2 ^ (at % 64) % 2 ^ 64 ≡ 2 ^ 64 - 2 ^ (at % 64) = ones_shl 64 (at % 64) (omega arith) in
    record {
      begun = omega arith;
      inside = λ bit below from. ap (λ (n : ℕ). bit_at n bit) mask ∙ bit_at_mask_inside (at % 64) 64 bit (omega (arith, from)) below;
      before = λ bit below short. ap (λ (n : ℕ). bit_at n bit) mask ∙ bit_at_mask_below (at % 64) 64 bit (omega (arith, short));
      none = λ place from below. absurd (omega (arith, from, below));
    }

-- what is looked at of a word has the bits of the word from the place on
looked_at : (words : List ℕ) (at word mask bit : ℕ) → IsSearched words at word mask → bit < 64 → at ≤ word * 64 + bit → bit_at (bit_and (get_or words word 0) mask) bit ≡ bit_at (get_or words word 0) bit
looked_at words at word mask bit so_far below from =
    let least = bit_at_and (get_or words word 0) mask bit in
    let inside = so_far.inside bit below from in
    let small = bit_at-lt (get_or words word 0) bit in
    omega (arith, least, inside, small)

pub search_goes_on : (words : List ℕ) (at word mask : ℕ) → IsSearched words at word mask → bit_and (get_or words word 0) mask ≡ 0 → IsSearched words at (word + 1) (2 ^ 64 - 1)
search_goes_on words at word mask so_far none = record {
  begun = omega (arith, so_far.begun);
  inside = λ bit below from. bit_at_ones 64 bit below;
  before = λ bit below short. absurd (omega (arith, short, so_far.begun));
  none = λ place from below. elim (cases_lt place (word * 64)) [
    | inl earlier ↦ so_far.none place from earlier
    | inr later ↦
        let bit : ℕ = place % 64 in
        let is : place ≡ word * 64 + bit = omega (arith, later, below) in
        let is_zero : bit_at (get_or words word 0) bit ≡ 0 =
        sym (looked_at words at word mask bit so_far (omega arith) (omega (arith, is, from))) ∙ (ap (λ (n : ℕ). bit_at n bit) none ∙ bit_at-zero bit) in
        ap (names_place words) is ∙ (bit_of_word words word bit (omega arith) ∙ ap (λ (n : ℕ). n == 1) is_zero)
  ];
}

-- the place that is found
pub record IsFirst (words : List ℕ) (at place : ℕ) : Type 0 where
  pub from : at ≤ place
  pub marked : names_place words place ≡ true
  pub first : (other : ℕ) → at ≤ other → other < place → names_place words other ≡ false

pub search_ends : (words : List ℕ) (at word mask : ℕ) → IsSearched words at word mask → bit_and (get_or words word 0) mask ≢ 0 → bit_and (get_or words word 0) mask < 2 ^ 64 →
    IsFirst words at (word * 64 + trailing_zeros w64 (bit_and (get_or words word 0) mask))
search_ends words at word mask so_far some fits =
    let rest : ℕ = bit_and (get_or words word 0) mask in
    let lowest = bit_at-trailing_zeros w64 rest (omega (arith, some)) fits in
    let bit : ℕ = trailing_zeros w64 rest in
    let least : bit_at rest bit ≡ min (bit_at (get_or words word 0) bit) (bit_at mask bit) = bit_at_and (get_or words word 0) mask bit in
    let found = lowest.1 in
    let word_bit = bit_at-lt (get_or words word 0) bit in
    let is_one : bit_at (get_or words word 0) bit ≡ 1 = omega (arith, least, found, word_bit) in
    let from : at ≤ word * 64 + bit = elim (cases_lt (word * 64 + bit) at) [
      | inl short ↦ let zero_there = so_far.before bit lowest.0 short in absurd (omega (arith, zero_there, least, found))
      | inr is ↦ is
    ] in
    record {
      from = from;
      marked = bit_of_word words word bit lowest.0 ∙ ap (λ (n : ℕ). n == 1) is_one;
      first = λ other above below. elim (cases_lt other (word * 64)) [
        | inl earlier ↦ so_far.none other above earlier
        | inr later ↦
            let place : ℕ = other % 64 in
            let short : other < word * 64 + bit = below in
            let within : bit < 64 = lowest.0 in
            let is : other ≡ word * 64 + place = omega (arith, later, short, within) in
            let is_zero : bit_at (get_or words word 0) place ≡ 0 =
            sym (looked_at words at word mask place so_far (omega arith) (omega (arith, is, above))) ∙ lowest.2 place (omega (arith, is, short)) in
            ap (names_place words) is ∙ (bit_of_word words word place (omega arith) ∙ ap (λ (n : ℕ). n == 1) is_zero)
      ];
    }
