-- Bits of words: one is set or cleared, the lowest is left out, and what a row holds at the places of a word's bits.
use Rattle.std.proofs.Common.{◌≡◌, ◌≢◌, ◌<◌, ◌≤◌, ◌+◌, ◌-◌, ◌*◌, ◌/◌, ◌%◌, ◌^◌, ◌==◌, ◌&&◌, ◌||◌, ℕ, zero, suc, List, [], ◌∷◌, ◌++◌, length, get_or, set, drop, replicate, Option, Some, None, Bool, true, false, not, cond, min, bit_and, bit_or, w64, refl, sym, ap, ◌∙◌, arith, inl, inr}
use Rattle.std.specs.Prelude.{is_some}
use Rattle.std.specs.Int.{bit_at, trailing_zeros}
use Rattle.std.proofs.lemmas.Bool.{cases_eq, cond-true, cond-false, and_parts, and_right, or_right, eq-eqb, ne_eqb}
use Rattle.std.proofs.lemmas.List.{get_or-set_same, get_or-set_other}
use Rattle.std.proofs.lemmas.Nat.Bits.{bit_at_and, bit_at-zero, bit_at_lowest, bit_at-suc, bit_at_set_same, bit_at_set_other, bit_at_clear_same, bit_at_clear_other, bit_at-trailing_zeros}
use Rattle.std.proofs.Math.Bool.{or-false, and-true}
use Rattle.list_facts.specs.Bits.{names_place, TellsHeld}

-- ---- one bit of a word

pub bit_set_in_word : (word bit place : ℕ) → bit < 64 → (bit_at (bit_or word (1 * 2 ^ bit % 2 ^ 64)) place == 1) ≡ ((bit_at word place == 1) || (place == bit))
bit_set_in_word word bit place below =
    let new : ℕ = bit_or word (1 * 2 ^ bit % 2 ^ 64) in
    elim (cases_eq place bit) [
      | inl same ↦
          ap (λ (n : ℕ). bit_at new n == 1) same
          ∙ (ap (λ (n : ℕ). n == 1) (bit_at_set_same w64 word bit below) ∙ sym (or_right (bit_at word place == 1) (place == bit) (eq-eqb place bit same)))
      | inr apart ↦
          ap (λ (n : ℕ). n == 1) (bit_at_set_other w64 word bit below place apart)
          ∙ (sym (or-false (bit_at word place == 1)) ∙ ap (λ (b : Bool). (bit_at word place == 1) || b) (sym (ne_eqb place bit apart)))
    ]

-- the bit of a place in the word of this number
pub bit_of_word : (words : List ℕ) (word bit : ℕ) → bit < 64 → names_place words (word * 64 + bit) ≡ (bit_at (get_or words word 0) bit == 1)
bit_of_word words word bit below =
    let place : ℕ = word * 64 + bit in
    let in_word : place / 64 ≡ word = omega (arith, below) in
    let at_bit : place % 64 ≡ bit = omega (arith, below) in
    ap (λ (n : ℕ). bit_at (get_or words n 0) (place % 64) == 1) in_word ∙ ap (λ (n : ℕ). bit_at (get_or words word 0) n == 1) at_bit

-- ---- one place of words

module _ (words : List ℕ) (at : ℕ) (within : at / 64 < length words) where
  -- with another word in the place of its word
  abbrev pub with_word : ℕ → List ℕ
  with_word word = set words (at / 64) word

  in_place : (word : ℕ) → get_or (with_word word) (at / 64) 0 ≡ word
  in_place word = get_or-set_same words (at / 64) word 0 within

  -- a place whose bit stays
  same_place : (word place : ℕ) → place ≢ at → ((bit : ℕ) → bit < 64 → bit ≢ at % 64 → bit_at word bit ≡ bit_at (get_or words (at / 64) 0) bit) → names_place (with_word word) place ≡ names_place words place
  same_place word place apart same = elim (cases_eq (place / 64) (at / 64)) [
    | inl beside ↦
        ap (λ (n : ℕ). bit_at (get_or (with_word word) n 0) (place % 64) == 1) beside
        ∙ (ap (λ (n : ℕ). bit_at n (place % 64) == 1) (in_place word)
        ∙ (ap (λ (n : ℕ). n == 1) (same (place % 64) (omega arith) (λ e. apart (omega (arith, e, beside))))
        ∙ ap (λ (n : ℕ). bit_at (get_or words n 0) (place % 64) == 1) (sym beside)))
    | inr away ↦ ap (λ (n : ℕ). bit_at n (place % 64) == 1) (get_or-set_other words (at / 64) (place / 64) word 0 away)
  ]

  pub place_is_set : (place : ℕ) → names_place (with_word (bit_or (get_or words (at / 64) 0) (1 * 2 ^ (at % 64) % 2 ^ 64))) place ≡ (names_place words place || place == at)
  place_is_set place =
      let old : ℕ = get_or words (at / 64) 0 in
      let bit : at % 64 < 64 = omega arith in
      let new : ℕ = bit_or old (1 * 2 ^ (at % 64) % 2 ^ 64) in
      elim (cases_eq place at) [
        | inl same ↦
            ap (names_place (with_word new)) same
            ∙ (ap (λ (n : ℕ). bit_at n (at % 64) == 1) (in_place new)
            ∙ (ap (λ (n : ℕ). n == 1) (bit_at_set_same w64 old (at % 64) bit)
            ∙ sym (or_right (names_place words place) (place == at) (eq-eqb place at same))))
        | inr apart ↦
            same_place new place apart (λ k below other. bit_at_set_other w64 old (at % 64) bit k other)
            ∙ (sym (or-false (names_place words place)) ∙ ap (λ (b : Bool). names_place words place || b) (sym (ne_eqb place at apart)))
      ]

  pub place_is_cleared : (place : ℕ) → names_place (with_word (bit_and (get_or words (at / 64) 0) (2 ^ 64 - 1 - 1 * 2 ^ (at % 64) % 2 ^ 64))) place ≡ (names_place words place && not (place == at))
  place_is_cleared place =
      let old : ℕ = get_or words (at / 64) 0 in
      let bit : at % 64 < 64 = omega arith in
      let new : ℕ = bit_and old (2 ^ 64 - 1 - 1 * 2 ^ (at % 64) % 2 ^ 64) in
      elim (cases_eq place at) [
        | inl same ↦
            ap (names_place (with_word new)) same
            ∙ (ap (λ (n : ℕ). bit_at n (at % 64) == 1) (in_place new)
            ∙ (ap (λ (n : ℕ). n == 1) (bit_at_clear_same w64 old (at % 64) bit)
            ∙ sym (and_right (names_place words place) (not (place == at)) (ap not (eq-eqb place at same)))))
        | inr apart ↦
            same_place new place apart (λ k below other. bit_at_clear_other w64 old (at % 64) bit k below other)
            ∙ (sym (and-true (names_place words place)) ∙ ap (λ (b : Bool). names_place words place && not b) (sym (ne_eqb place at apart)))
      ]

-- ---- `n & (n - 1)` is n without its lowest 1, whose place is t

lowest_gone : (n t : ℕ) → bit_at n t ≡ 1 → ((j : ℕ) → j < t → bit_at n j ≡ 0) → min (bit_at n t) (bit_at (n - 1) t) ≡ 0
lowest_gone n zero is none = omega (arith, bit_at_lowest n, bit_at_lowest (n - 1))
lowest_gone n (suc t) is none =
    let even : n % 2 ≡ 0 = sym (bit_at_lowest n) ∙ none 0 (omega arith) in
    let half : (n - 1) / 2 ≡ n / 2 - 1 = omega arith in
    let rest = lowest_gone (n / 2) t (sym (bit_at-suc n t) ∙ is) (λ j below. sym (bit_at-suc n j) ∙ none (suc j) (omega arith)) in
    omega (arith, rest, bit_at-suc n t, bit_at-suc (n - 1) t ∙ ap (λ (m : ℕ). bit_at m t) half)

others_stay : (n t k : ℕ) → bit_at n t ≡ 1 → ((j : ℕ) → j < t → bit_at n j ≡ 0) → k ≢ t → min (bit_at n k) (bit_at (n - 1) k) ≡ bit_at n k
others_stay n zero zero is none other = absurd (other refl)
others_stay n zero (suc k) is none other =
    let half : (n - 1) / 2 ≡ n / 2 = omega (arith, bit_at_lowest n) in
    omega (arith, bit_at-suc n k, bit_at-suc (n - 1) k ∙ ap (λ (m : ℕ). bit_at m k) half)
others_stay n (suc t) zero is none other = omega (arith, none 0 (omega arith))
others_stay n (suc t) (suc k) is none other =
    let even : n % 2 ≡ 0 = sym (bit_at_lowest n) ∙ none 0 (omega arith) in
    let half : (n - 1) / 2 ≡ n / 2 - 1 = omega arith in
    let rest = others_stay (n / 2) t k (sym (bit_at-suc n t) ∙ is) (λ j below. sym (bit_at-suc n j) ∙ none (suc j) (omega arith)) (λ e. other (ap suc e)) in
    omega (arith, rest, bit_at-suc n k, bit_at-suc (n - 1) k ∙ ap (λ (m : ℕ). bit_at m k) half)

pub bit-without_lowest : (n t k : ℕ) → bit_at n t ≡ 1 → ((j : ℕ) → j < t → bit_at n j ≡ 0) → (bit_at (bit_and n (n - 1)) k == 1) ≡ ((bit_at n k == 1) && not (k == t))
bit-without_lowest n t k is none =
    ap (λ (m : ℕ). m == 1) (bit_at_and n (n - 1) k)
    ∙ elim (cases_eq k t) [
      | inl here ↦ rw here (ap (λ (m : ℕ). m == 1) (lowest_gone n t is none) ∙ sym (and_right _ _ (ap not (eq-eqb t t refl))))
      | inr there ↦ ap (λ (m : ℕ). m == 1) (others_stay n t k is none there) ∙ (sym (and-true (bit_at n k == 1)) ∙ ap (λ (b : Bool). (bit_at n k == 1) && not b) (sym (ne_eqb k t there)))
    ]

-- ---- what a row holds at the places of a word's bits

-- the row with nothing in the places whose bits are 0; the first place's bit is this one
abbrev pub kept_from : {X : Type 0} → ℕ → ℕ → List (Option X) → List (Option X)
kept_from from word [] = []
kept_from from word (held ∷ row) = cond (bit_at word from == 1) held None ∷ kept_from (from + 1) word row

abbrev pub kept : {X : Type 0} → ℕ → List (Option X) → List (Option X)
kept word row = kept_from 0 word row

-- each bit of the word is a place's that holds something
abbrev pub IsWithin : {X : Type 0} → List (Option X) → ℕ → Type 0
IsWithin row word = (place : ℕ) → (bit_at word place == 1) ≡ true → is_some (get_or row place None) ≡ true

all_kept : {X : Type 0} (from word : ℕ) (row : List (Option X)) → ((place : ℕ) → (bit_at word (from + place) == 1) ≡ is_some (get_or row place None)) → kept_from from word row ≡ row
all_kept from word [] tells = refl
all_kept {X} from word (held ∷ row) tells =
    let here : from ≡ from + 0 = omega arith in
    let rest : kept_from (from + 1) word row ≡ row = all_kept (from + 1) word row (λ place. let next : from + 1 + place ≡ from + suc place = omega arith in ap (λ (n : ℕ). bit_at word n == 1) next ∙ tells (suc place)) in
    let first : cond (bit_at word from == 1) held None ≡ held = one held (ap (λ (n : ℕ). bit_at word n == 1) here ∙ tells 0) in
    ap (λ (h : Option X). h ∷ kept_from (from + 1) word row) first ∙ ap (λ (xs : List (Option X)). held ∷ xs) rest
  where
    one : (h : Option X) → (bit_at word from == 1) ≡ is_some h → cond (bit_at word from == 1) h None ≡ h
    one None is = cond-false (bit_at word from == 1) None None is
    one (Some x) is = cond-true (bit_at word from == 1) (Some x) None is

-- a word that tells of a row keeps it whole
pub kept_whole : {X : Type 0} (word : ℕ) (row : List (Option X)) → TellsHeld row word → kept word row ≡ row
kept_whole word row tells = all_kept 0 word row (λ place. let here : 0 + place ≡ place = omega arith in ap (λ (n : ℕ). bit_at word n == 1) here ∙ tells place)

pub within_whole : {X : Type 0} (word : ℕ) (row : List (Option X)) → TellsHeld row word → IsWithin row word
within_whole word row tells = λ place is. sym (tells place) ∙ is

none_kept : {X : Type 0} (from : ℕ) (row : List (Option X)) → kept_from from 0 row ≡ replicate (length row) None
none_kept from [] = refl
none_kept {X} from (held ∷ row) =
    ap (λ (h : Option X). h ∷ kept_from (from + 1) 0 row) (cond-false (bit_at 0 from == 1) held None (ap (λ (n : ℕ). n == 1) (bit_at-zero from)))
    ∙ ap (λ (xs : List (Option X)). None ∷ xs) (none_kept (from + 1) row)

-- a word without bits keeps nothing
pub kept_none : {X : Type 0} (row : List (Option X)) → kept 0 row ≡ replicate (length row) None
kept_none row = none_kept 0 row

-- where the first bits are 0, nothing is kept before the place behind them
kept_on : {X : Type 0} (from k word : ℕ) (row : List (Option X)) → k < length row → ((place : ℕ) → place < k → bit_at word (from + place) ≡ 0)
    → kept_from from word row ≡ replicate k None ++ (cond (bit_at word (from + k) == 1) (get_or row k None) None ∷ kept_from (from + k + 1) word (drop (suc k) row))
kept_on from k word [] below low = absurd (omega arith)
kept_on {X} from zero word (held ∷ row) below low =
    let here : from ≡ from + 0 = omega arith in
    ap (λ (n : ℕ). cond (bit_at word n == 1) held None ∷ kept_from (n + 1) word row) here
kept_on {X} from (suc k) word (held ∷ row) below low =
    let here : from ≡ from + 0 = omega arith in
    let next : from + 1 + k ≡ from + suc k = omega arith in
    let rest = kept_on (from + 1) k word row (omega arith) (λ place under. let on : from + 1 + place ≡ from + suc place = omega arith in ap (bit_at word) on ∙ low (suc place) (omega arith)) in
    ap (λ (h : Option X). h ∷ kept_from (from + 1) word row) (cond-false (bit_at word from == 1) held None (ap (λ (n : ℕ). n == 1) (ap (bit_at word) here ∙ low 0 (omega arith))))
    ∙ (ap (λ (xs : List (Option X)). None ∷ xs) rest
    ∙ ap (λ (n : ℕ). None ∷ (replicate k None ++ (cond (bit_at word n == 1) (get_or row k None) None ∷ kept_from (n + 1) word (drop (suc k) row)))) next)

kept_first : {X : Type 0} (k word : ℕ) (row : List (Option X)) → k < length row → ((place : ℕ) → place < k → bit_at word place ≡ 0)
    → kept word row ≡ replicate k None ++ (cond (bit_at word k == 1) (get_or row k None) None ∷ kept_from (k + 1) word (drop (suc k) row))
kept_first {X} k word row below low =
    kept_on 0 k word row below (λ place under. ap (bit_at word) (plain place) ∙ low place under)
    ∙ ap (λ (n : ℕ). replicate k None ++ (cond (bit_at word n == 1) (get_or row k None) None ∷ kept_from (n + 1) word (drop (suc k) row))) (plain k)
  where
    plain : (place : ℕ) → 0 + place ≡ place
    plain place = omega arith

same_kept : {X : Type 0} (from word other : ℕ) (row : List (Option X)) → ((place : ℕ) → from ≤ place → (bit_at word place == 1) ≡ (bit_at other place == 1)) → kept_from from word row ≡ kept_from from other row
same_kept from word other [] same = refl
same_kept {X} from word other (held ∷ row) same =
    ap (λ (b : Bool). cond b held None ∷ kept_from (from + 1) word row) (same from (omega arith))
    ∙ ap (λ (xs : List (Option X)). cond (bit_at other from == 1) held None ∷ xs) (same_kept (from + 1) word other row (λ place above. same place (omega arith)))

-- what is kept of a row, and what without the lowest bit: they differ at its place alone
pub record LowestIsKept {X : Type 0} (row : List (Option X)) (word place : ℕ) : Type 0 where
  pub below : place < length row
  pub held : is_some (get_or row place None) ≡ true
  pub now : kept word row ≡ replicate place None ++ (get_or row place None ∷ kept_from (place + 1) word (drop (suc place) row))
  pub then : kept (bit_and word (word - 1)) row ≡ replicate place None ++ (None ∷ kept_from (place + 1) word (drop (suc place) row))
  pub within : IsWithin row (bit_and word (word - 1))

pub lowest_is_kept : {X : Type 0} (row : List (Option X)) (word : ℕ) → word < 2 ^ 64 → word ≢ 0 → IsWithin row word → LowestIsKept row word (trailing_zeros w64 word)
lowest_is_kept {X} row word fits some within =
    let t : ℕ = trailing_zeros w64 word in
    let at = bit_at-trailing_zeros w64 word (omega (arith, some)) fits in
    let is : bit_at word t ≡ 1 = at.1 in
    let less : ℕ = bit_and word (word - 1) in
    let holds : is_some (get_or row t None) ≡ true = within t (ap (λ (n : ℕ). n == 1) is) in
    let inside : t < length row = in_row row t holds in
    let without : (place : ℕ) → (bit_at less place == 1) ≡ ((bit_at word place == 1) && not (place == t)) = λ place. bit-without_lowest word t place is at.2 in
    let above : kept_from (t + 1) less (drop (suc t) row) ≡ kept_from (t + 1) word (drop (suc t) row) =
    same_kept (t + 1) less word (drop (suc t) row) (λ place over. without place ∙ (ap (λ (b : Bool). (bit_at word place == 1) && not b) (ne_eqb place t (λ e. absurd (omega (arith, e, over)))) ∙ and-true (bit_at word place == 1))) in
    let low : (place : ℕ) → place < t → bit_at less place ≡ 0 = λ place under.
    omega (arith, bit_at_and word (word - 1) place, at.2 place under) in
    let gone : (bit_at less t == 1) ≡ false = without t ∙ and_right (bit_at word t == 1) (not (t == t)) (ap not (eq-eqb t t refl)) in
    record {
      below = inside;
      held = holds;
      now = kept_first t word row inside at.2
          ∙ ap (λ (h : Option X). replicate t None ++ (h ∷ kept_from (t + 1) word (drop (suc t) row))) (cond-true (bit_at word t == 1) (get_or row t None) None (ap (λ (n : ℕ). n == 1) is));
      then = kept_first t less row inside low
          ∙ (ap (λ (h : Option X). replicate t None ++ (h ∷ kept_from (t + 1) less (drop (suc t) row))) (cond-false (bit_at less t == 1) (get_or row t None) None gone)
          ∙ ap (λ (xs : List (Option X)). replicate t None ++ (None ∷ xs)) above);
      within = λ place is_one. within place ((and_parts (bit_at word place == 1) (not (place == t)) (sym (without place) ∙ is_one)).0);
    }
  where
    in_row : (xs : List (Option X)) (k : ℕ) → is_some (get_or xs k None) ≡ true → k < length xs
    in_row [] k is = absurd (cc)
    in_row (x ∷ xs) zero is = omega arith
    in_row (x ∷ xs) (suc k) is = omega (arith, in_row xs k is)
