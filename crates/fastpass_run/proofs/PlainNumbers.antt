-- A word that `parse` reads as a number, and that begins with no sign and no zero.
use Rattle.std.proofs.Common.{◌≡◌, ◌<◌, ◌≤◌, ◌^◌, ℕ, Bool, true, false, ◌&&◌, nat_le, List, [], ◌∷◌, length, get_or, Option, Some, None, IfSome, Result, Ok, Err, sym, ap, ◌∙◌, subst, arith, inl, inr}
use Rattle.std.specs.Char.{digit_value}
use Rattle.std.specs.Str.{all_ascii_digits}
use Rattle.std.specs.Str.Parse.{digits_value, ParsesUnsigned}
use Rattle.std.specs.Result.{OkIff}
use Rattle.std.specs.Bool.{then_some}
use Rattle.std.proofs.lemmas.Bool.{cond-true, cond-false, cases_Bool, and_from, and_right, and_parts, leb-false, le-leb, lt-leb, leb-true}
use Rattle.std.proofs.lemmas.Bool.Decides.{nat_tests}
use Rattle.std.proofs.lemmas.Str.Parse.{parse_plain, numerals_by_value, tells_all_ascii_digits, digits_value-take-le}
use Rattle.fastpass_run.specs.Words.{plain_up_to}

abbrev all_digits : List ℕ → Type 0
all_digits ds = all_ascii_digits ds ≡ true

-- the word is plain: no sign, no leading zero
abbrev pub BeginsPlain : List ℕ → Type 0
BeginsPlain word = (49 ≤ get_or word 0 0) × (get_or word 0 0 ≤ 57)

read_plain : {E : Type 0} (word : List ℕ) (r : Result ℕ E) → BeginsPlain word → ParsesUnsigned 32 10 word r → OkIff r (all_digits word × (0 < length word) × (digits_value 10 word < 2 ^ 32)) (digits_value 10 word)
read_plain word r plain read = parse_plain (numerals_by_value all_digits tells_all_ascii_digits) 32 word r read (λ e. omega arith)

abbrev test : ℕ → List ℕ → Bool
test most word = nat_le 49 (get_or word 0 0) && nat_le (get_or word 0 0) 57 && all_ascii_digits word && nat_le (digits_value 10 word) most

number_within : (most n : ℕ) (word : List ℕ) → BeginsPlain word → all_digits word → n ≡ digits_value 10 word → n ≤ most → Some n ≡ plain_up_to most word
number_within most n word plain digits is le =
    let passes : test most word ≡ true =
    and_from _ _ (and_from _ _ (and_from _ _ (le-leb 49 (get_or word 0 0) plain.0) (le-leb (get_or word 0 0) 57 plain.1)) digits) (le-leb (digits_value 10 word) most (omega arith)) in
    ap (λ (m : ℕ). Some m) is ∙ sym (cond-true (test most word) (Some (digits_value 10 word)) None passes)

number_above : (most n : ℕ) (word : List ℕ) → n ≡ digits_value 10 word → most < n → None ≡ plain_up_to most word
number_above most n word is gt =
    let fails : test most word ≡ false = and_right _ _ (lt-leb (digits_value 10 word) most (omega arith)) in
    sym (cond-false (test most word) (Some (digits_value 10 word)) None fails)

-- what is no number of 32 bits is no number up to most
pub no_number : {E : Type 0} (most : ℕ) (word : List ℕ) (e : E) → BeginsPlain word → 0 < length word → most < 2 ^ 32 → ParsesUnsigned 32 10 word (Err e) → None ≡ plain_up_to most word
no_number most word e plain some small read =
    let refused = read_plain word (Err e) plain read in
    elim (cases_Bool (test most word)) [
      | inl passes ↦
          let parts = and_parts _ (nat_le (digits_value 10 word) most) passes in
          let digits : all_digits word = (and_parts _ (all_ascii_digits word) parts.0).1 in
          let below : digits_value 10 word < 2 ^ 32 = omega (arith, leb-true (digits_value 10 word) most parts.1) in
          absurd (refused (digits, some, below))
      | inr fails ↦ sym (cond-false (test most word) (Some (digits_value 10 word)) None fails)
    ]

-- what is one is the number itself, if it is no more than most
pub some_number : (most n : ℕ) (word : List ℕ) → BeginsPlain word → ParsesUnsigned {E = ℕ} 32 10 word (Ok n) → then_some (nat_le n most) n ≡ plain_up_to most word
some_number most n word plain read =
    let is = read_plain {E = ℕ} word (Ok n) plain read in
    elim (cases_Bool (nat_le n most)) [
      | inl within ↦ ap (λ b. then_some b n) within ∙ number_within most n word plain is.0.0 is.1 (leb-true n most within)
      | inr above ↦ ap (λ b. then_some b n) above ∙ number_above most n word is.1 (leb-false n most above)
    ]

-- a number that begins with no zero is none
pub begins_above : (word : List ℕ) → BeginsPlain word → 0 < digits_value 10 word
begins_above [] plain = absurd (omega (arith, plain.0))
begins_above (d ∷ ds) plain =
    let low : 49 ≤ d = plain.0 in
    let high : d ≤ 57 = plain.1 in
    let digit : 0 < digit_value d = grind (arith, nat_tests) in
    omega (arith, digit, digits_value-take-le 10 (d ∷ ds) 1 (omega arith))

pub number_bounds : (most n : ℕ) (word : List ℕ) → BeginsPlain word → ParsesUnsigned {E = ℕ} 32 10 word (Ok n) → IfSome (then_some (nat_le n most) n) (λ m. (0 < m) × (m ≤ most))
number_bounds most n word plain read =
    let is = read_plain {E = ℕ} word (Ok n) plain read in
    let P : Option ℕ → Type 0 = λ o. IfSome o (λ m. (0 < m) × (m ≤ most)) in
    elim (cases_Bool (nat_le n most)) [
      | inl within ↦ subst P (sym (ap (λ b. then_some b n) within)) (omega (arith, is.1, begins_above word plain), leb-true n most within)
      | inr above ↦ subst P (sym (ap (λ b. then_some b n) above)) tt
    ]
