-- How many words name a slot.
use Rattle.std.proofs.Common.{◌≡◌, ◌≢◌, ◌<◌, ◌+◌, ℕ, zero, suc, List, [], ◌∷◌, length, get_or, true, false, not, ◌==◌, cond, refl, sym, ap, ◌∙◌, arith}
use Rattle.std.proofs.lemmas.Bool.{both_ways}
use Rattle.std.specs.Int.{bit_at}
use Rattle.std.proofs.lemmas.Nat.Bits.{bit_at-lt, bit_at-zero, same_from_bits}
use Rattle.std.proofs.lemmas.List.Sums.{sum_by-cons}
use Rattle.endpoint_bitmaps.specs.Slots.{has_slot}
use Rattle.endpoint_bitmaps.specs.Fit.{naming}
use Rattle.endpoint_bitmaps.proofs.WordLemmas.{has_slot-none}

abbrev one : ℕ → ℕ
one word = cond (not (word == 0)) 1 0

naming-cons : (word : ℕ) (words : List ℕ) → naming (word ∷ words) ≡ one word + naming words
naming-cons word words = sum_by-cons one word words

counts : (word : ℕ) → one word ≡ 0 → word ≡ 0
counts word none = grind arith

-- where none does, each is 0
pub none_named : (words : List ℕ) → naming words ≡ 0 → (at : ℕ) → get_or words at 0 ≡ 0
none_named [] none at = refl
none_named (word ∷ words) none zero = counts word (omega (arith, none, naming-cons word words))
none_named (word ∷ words) none (suc at) = none_named words (omega (arith, none, naming-cons word words)) at

-- and where each is 0, none does
pub none_names : (words : List ℕ) → ((at : ℕ) → at < length words → get_or words at 0 ≡ 0) → naming words ≡ 0
none_names [] all = refl
none_names (word ∷ words) all =
    let rest = none_names words (λ at below. all (suc at) (omega (arith, below))) in
    let first : one word ≡ 0 = ap one (all 0 (omega arith)) in
    omega (arith, naming-cons word words, rest, first)

-- a word that names a slot is not 0
pub names_some : (word slot : ℕ) → has_slot word slot ≡ true → word ≢ 0
names_some word slot named = λ none. both_ways (has_slot word slot) (ap (λ (n : ℕ). has_slot n slot) none ∙ has_slot-none slot) named

no_bit : (x : ℕ) → x < 2 → (x == 1) ≡ false → x ≡ 0
no_bit x bit none = grind arith

-- a word that names none is 0
pub names_none : (word : ℕ) → ((slot : ℕ) → has_slot word slot ≡ false) → word ≡ 0
names_none word none = same_from_bits word 0 (λ i. no_bit (bit_at word i) (bit_at-lt word i) (none i) ∙ sym (bit_at-zero i))
