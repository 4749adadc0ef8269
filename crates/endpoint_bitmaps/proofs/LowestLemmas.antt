-- The lowest 1 of a word is taken from it time and again.
use Rattle.std.proofs.Common.{◌≡◌, ◌≢◌, ◌<◌, ◌≤◌, ◌+◌, ◌-◌, ◌^◌, ℕ, suc, Bool, true, false, not, ◌==◌, ◌&&◌, min, bit_and, count_ones, w64, sym, ap, ◌∙◌, arith, inl, inr}
use Rattle.std.specs.Int.{trailing_zeros}
use Rattle.std.proofs.lemmas.Bool.{cases_Bool, cases_lt, and_left, and_from, lt-ltb, both_ways}
use Rattle.std.proofs.lemmas.Nat.Bits.{bit_at-trailing_zeros}
use Rattle.endpoint_bitmaps.specs.Slots.{has_slot, count_below, is_among_lowest, NoneFrom}
use Rattle.endpoint_bitmaps.proofs.CountLemmas.{is_left, one_more_taken, taken_is, few_below, count_below-same, count_below-passes, count_below-rises, count_of_lowest, count_of_all}
use Rattle.list_facts.proofs.Bits.{bit-without_lowest}
use Rattle.endpoint_bitmaps.proofs.WordLemmas.{has_slot-without, has_slot-none, has_slot-above, count_ones_is}

pub next_taken : (slots rest i k : ℕ) → rest < 2 ^ 64 → rest ≢ 0 → ((j : ℕ) → has_slot rest j ≡ is_left (has_slot slots) i j) → has_slot (bit_and rest (rest - 1)) k ≡ is_left (has_slot slots) (i + 1) k
next_taken slots rest i k fits some so_far =
    let more : 0 < rest = omega (arith, some) in
    let at = bit_at-trailing_zeros w64 rest more fits in
    let t : ℕ = trailing_zeros w64 rest in
    let first : is_left (has_slot slots) i t ≡ true = sym (so_far t) ∙ ap (λ (n : ℕ). n == 1) at.1 in
    let lowest : (j : ℕ) → j < t → is_left (has_slot slots) i j ≡ false = λ j below. sym (so_far j) ∙ ap (λ (n : ℕ). n == 1) (at.2 j below) in
    bit-without_lowest rest t k at.1 at.2
    ∙ (ap (λ (b : Bool). b && not (k == t)) (so_far k)
    ∙ (sym (one_more_taken (has_slot slots) i t k first lowest) ∙ ap (λ (n : ℕ). is_left (has_slot slots) n k) (omega arith)))

-- so many are taken, or none is left
pub all_taken : (slots rest i need k : ℕ) → slots < 2 ^ 64 → rest < 2 ^ 64 → i ≤ need → ((j : ℕ) → has_slot rest j ≡ is_left (has_slot slots) i j) → (i < need → rest ≡ 0)
    → has_slot (bit_and slots (2 ^ 64 - 1 - rest)) k ≡ is_among_lowest (has_slot slots) need k
all_taken slots rest i need k slots_fits rest_fits within so_far ended =
    has_slot-without slots rest k slots_fits rest_fits
    ∙ (ap (λ (b : Bool). has_slot slots k && not b) (so_far k)
    ∙ taken_is (has_slot slots) i need k within
    (λ before. sym (so_far k) ∙ (ap (λ (n : ℕ). has_slot n k) (ended before) ∙ has_slot-none k)))

-- how many were taken, where no slot passes from a place on
pub count_is : (w result need b : ℕ) (p : ℕ → Bool) → result < 2 ^ w → ((k : ℕ) → has_slot result k ≡ is_among_lowest p need k) → NoneFrom w p → NoneFrom b p → count_ones result ≡ min need (count_below p b)
count_is w result need b p fits is none none_either =
    count_ones_is w result fits
    ∙ (count_below-same (has_slot result) (is_among_lowest p need) w (λ k below. is k)
    ∙ (count_of_lowest p need w ∙ ap (min need) (count_of_all p b w none_either none)))

-- where they are no more than are needed, all are the lowest
pub few_are_all : (slots need k : ℕ) → slots < 2 ^ 64 → count_ones slots ≤ need → has_slot slots k ≡ is_among_lowest (has_slot slots) need k
few_are_all slots need k fits few = elim (cases_Bool (has_slot slots k)) [
  | inr other ↦ other ∙ sym (and_left (has_slot slots k) _ other)
  | inl here ↦
      let within : k < 64 = elim (cases_lt k 64) [
        | inl below ↦ below
        | inr above ↦ absurd (both_ways (has_slot slots k) (has_slot-above slots k fits above) here)
      ] in
      let fewer : count_below (has_slot slots) k < need =
      omega (arith, count_below-passes (has_slot slots) k here, count_below-rises (has_slot slots) (suc k) 64 (omega arith), count_ones_is 64 slots fits) in
      here ∙ sym (and_from (has_slot slots k) _ here (lt-ltb (count_below (has_slot slots) k) need fewer))
]

-- where they are more than so many, one is left
pub some_left : (slots rest i : ℕ) → slots < 2 ^ 64 → i < count_ones slots → ((j : ℕ) → has_slot rest j ≡ is_left (has_slot slots) i j) → rest ≢ 0
some_left slots rest i fits more so_far none =
    let all = few_below (has_slot slots) 64 i (λ j below. sym (so_far j) ∙ (ap (λ (n : ℕ). has_slot n j) none ∙ has_slot-none j)) in
    absurd (omega (arith, all, count_ones_is 64 slots fits, more))
