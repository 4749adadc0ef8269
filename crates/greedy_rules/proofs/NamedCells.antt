-- Cells of a row that the bits of words name, and what others hold once these are written.
use Rattle.std.proofs.Common.{◌≡◌, ◌≢◌, ◌<◌, ◌≤◌, ◌+◌, ◌-◌, ◌*◌, ◌/◌, ◌%◌, ◌^◌, ◌==◌, ◌&&◌, ℕ, List, Option, Some, None, Bool, true, false, not, cond, get_or, set, length, replicate, bit_and, refl, sym, ap, ◌∙◌, arith, inl, inr}
use Rattle.std.specs.Prelude.{is_some, nat_lt}
use Rattle.std.specs.Int.{bit_at}
use Rattle.std.proofs.lemmas.Bool.{cases_eq, cases_lt, cases_Bool, cond-true, cond-false, and_left, and_right, and_from, eqb-true, eq-eqb, ne_eqb}
use Rattle.std.proofs.lemmas.List.{get_or-set_same, get_or-set_other, get_or_past, get_or_append_left, get_or-append_right, ext_get_or, length-replicate}
use Rattle.std.proofs.lemmas.Nat.Bits.{bit_at_above}
use Rattle.std.proofs.Math.Bool.{and-true}
use Rattle.list_facts.specs.Bits.{names_place}
use Rattle.list_facts.proofs.Bits.{bit-without_lowest, bit_of_word}
use Rattle.greedy_rules.specs.SlotTable.{flows_from}
use Rattle.greedy_rules.specs.Senders.{AreSendersOf}
use Rattle.greedy_rules.proofs.RowLemmas.{destination-at}
use Rattle.greedy_rules.proofs.TableLemmas.{nobody, none_placed, filled, filled_long}

-- whether the word of this number names the place
abbrev pub in_word : ℕ → ℕ → ℕ → Bool
in_word word bits place = (place / 64 == word) && (bit_at bits (place % 64) == 1)

-- what stands at a place once the row is written at those that the word names
abbrev pub with_word : ℕ → ℕ → List (Option ℕ) → List (Option ℕ) → ℕ → Option ℕ
with_word word bits row into place = cond (in_word word bits place) (get_or row place None) (get_or into place None)

-- the lowest bit's place is written, and the other bits name what is left
pub lowest_written : (word bits t : ℕ) (row into : List (Option ℕ)) (held : Option ℕ) → bit_at bits t ≡ 1 → ((j : ℕ) → j < t → bit_at bits j ≡ 0) → t < 64 → word * 64 + t < length into
    → held ≡ get_or row (word * 64 + t) None
    → (place : ℕ) → with_word word (bit_and bits (bits - 1)) row (set into (word * 64 + t) held) place ≡ with_word word bits row into place
lowest_written word bits t row into held is low small within value place =
    let at : ℕ = word * 64 + t in
    let less : ℕ = bit_and bits (bits - 1) in
    let new : List (Option ℕ) = set into at held in
    elim (cases_eq place at) [
      | inl same ↦
          let of_word : place / 64 ≡ word = omega (arith, same, small) in
          let of_bit : place % 64 ≡ t = omega (arith, same, small) in
          let gone : in_word word less place ≡ false =
          and_right (place / 64 == word) (bit_at less (place % 64) == 1) (bit-without_lowest bits t (place % 64) is low ∙ and_right (bit_at bits (place % 64) == 1) (not (place % 64 == t)) (ap not (eq-eqb (place % 64) t of_bit))) in
          let named : in_word word bits place ≡ true =
          and_from (place / 64 == word) (bit_at bits (place % 64) == 1) (eq-eqb (place / 64) word of_word) (eq-eqb (bit_at bits (place % 64)) 1 (ap (bit_at bits) of_bit ∙ is)) in
          cond-false (in_word word less place) (get_or row place None) (get_or new place None) gone
          ∙ (ap (λ (n : ℕ). get_or new n None) same
          ∙ (get_or-set_same into at held None within
          ∙ (value
          ∙ (ap (λ (n : ℕ). get_or row n None) (sym same) ∙ sym (cond-true (in_word word bits place) (get_or row place None) (get_or into place None) named)))))
      | inr other ↦
          ap (λ (b : Bool). cond b (get_or row place None) (get_or new place None)) (same_names other)
          ∙ ap (λ (cell : Option ℕ). cond (in_word word bits place) (get_or row place None) cell) (get_or-set_other into at place held None other)
    ]
  where
    same_names : place ≢ word * 64 + t → in_word word (bit_and bits (bits - 1)) place ≡ in_word word bits place
    same_names other = elim (cases_Bool (place / 64 == word)) [
      | inl here ↦
          let of_word : place / 64 ≡ word = eqb-true (place / 64) word here in
          let apart : (place % 64 == t) ≡ false = ne_eqb (place % 64) t (λ e. other (omega (arith, e, of_word))) in
          ap (λ (b : Bool). (place / 64 == word) && b)
          (bit-without_lowest bits t (place % 64) is low
          ∙ (ap (λ (b : Bool). (bit_at bits (place % 64) == 1) && not b) apart ∙ and-true (bit_at bits (place % 64) == 1)))
      | inr there ↦ and_left (place / 64 == word) _ there ∙ sym (and_left (place / 64 == word) _ there)
    ]

-- what stands at a place once the row is written at those that the first words name
abbrev pub with_words : ℕ → List ℕ → List (Option ℕ) → List (Option ℕ) → ℕ → Option ℕ
with_words count words row into place = cond (nat_lt (place / 64) count && names_place words place) (get_or row place None) (get_or into place None)

-- a bit of a word that is set is the name of its place
pub bit_names : (words : List ℕ) (word bit : ℕ) → get_or words word 0 < 2 ^ 64 → (bit_at (get_or words word 0) bit == 1) ≡ true → names_place words (word * 64 + bit) ≡ true
bit_names words word bit fits is = elim (cases_lt bit 64) [
  | inl below ↦ bit_of_word words word bit below ∙ is
  | inr above ↦
      let no : false ≡ true = sym (ap (λ (n : ℕ). n == 1) (bit_at_above (get_or words word 0) 64 bit fits above)) ∙ is in
      absurd (cc)
]

-- where words name who sends in a row, a place that they name is one of its cells
pub named_within : (row : List (Option ℕ)) (words : List ℕ) (place : ℕ) → AreSendersOf (flows_from 0 row) words → names_place words place ≡ true → place < length row
named_within row words place are is = elim (cases_lt place (length row)) [
  | inl below ↦ below
  | inr past ↦
      let no : true ≡ false = sym is ∙ (are place ∙ ap is_some (destination-at 0 place place row (omega arith) ∙ get_or_past row place None past)) in
      absurd (cc)
]

-- at a place that they do not name the row holds nothing
not_named : (row : List (Option ℕ)) (words : List ℕ) (place : ℕ) → AreSendersOf (flows_from 0 row) words → names_place words place ≡ false → get_or row place None ≡ None
not_named row words place are free = nothing (get_or row place None) (ap is_some (sym (destination-at 0 place place row (omega arith))) ∙ (sym (are place) ∙ free))
  where
    nothing : (cell : Option ℕ) → is_some cell ≡ false → cell ≡ None
    nothing None is = refl
    nothing (Some dst) is = absurd (cc)

-- what a place holds where the row's are written over at the places that the words name
abbrev pub over : List ℕ → List (Option ℕ) → List (Option ℕ) → ℕ → Option ℕ
over words row into place = cond (names_place words place) (get_or row place None) (get_or into place None)

-- where nothing is written at the places of the row's senders, it holds nothing
pub emptied : (words : List ℕ) (row idle now : List (Option ℕ)) → AreSendersOf (flows_from 0 row) words → idle ≡ replicate (length row) None → length now ≡ length row
    → ((place : ℕ) → get_or now place None ≡ over words idle row place) → now ≡ replicate (length row) None
emptied words row idle now are is_idle long wrote =
    ext_get_or None now (replicate (length row) None) (long ∙ sym (length-replicate (length row) nobody)) (λ place below. wrote place ∙ (value place ∙ sym (none_placed (length row) place)))
  where
    value : (place : ℕ) → over words idle row place ≡ None
    value place = elim (cases_Bool (names_place words place)) [
      | inl named ↦ cond-true (names_place words place) (get_or idle place None) (get_or row place None) named ∙ (ap (λ (xs : List (Option ℕ)). get_or xs place None) is_idle ∙ none_placed (length row) place)
      | inr free ↦ cond-false (names_place words place) (get_or idle place None) (get_or row place None) free ∙ not_named row words place are free
    ]

-- where a row's senders are written over places that hold nothing, these hold the row
pub copied : (words : List ℕ) (row into now : List (Option ℕ)) → AreSendersOf (flows_from 0 row) words → ((place : ℕ) → get_or into place None ≡ None) → length row ≤ length into → length now ≡ length into
    → ((place : ℕ) → get_or now place None ≡ over words row into place) → now ≡ filled (length into) row
copied words row into now are idle whole long wrote =
    ext_get_or None now (filled (length into) row) (long ∙ sym (filled_long (length into) row whole)) (λ place below. wrote place ∙ (value place ∙ sym (behind place)))
  where
    value : (place : ℕ) → over words row into place ≡ get_or row place None
    value place = elim (cases_Bool (names_place words place)) [
      | inl named ↦ cond-true (names_place words place) (get_or row place None) (get_or into place None) named
      | inr free ↦ cond-false (names_place words place) (get_or row place None) (get_or into place None) free ∙ (idle place ∙ sym (not_named row words place are free))
    ]

    behind : (place : ℕ) → get_or (filled (length into) row) place None ≡ get_or row place None
    behind place =
        let rest : List (Option ℕ) = replicate (length into - length row) None in
        elim (cases_lt place (length row)) [
          | inl below ↦ get_or_append_left row rest None place below
          | inr past ↦ get_or-append_right row rest (length row) place None refl past ∙ (none_placed (length into - length row) (place - length row) ∙ sym (get_or_past row place None past))
        ]
