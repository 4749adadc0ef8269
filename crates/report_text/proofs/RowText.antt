-- The lines of a row, by the places that hold a destination.
use Rattle.std.proofs.Common.{◌≡◌, ◌≤◌, ◌+◌, ◌-◌, ℕ, zero, suc, List, [], ◌∷◌, ◌++◌, length, get_or, drop, replicate, Option, Some, None, true, bit_and, refl, sym, ap, ◌∙◌, arith}
use Rattle.std.specs.Prelude.{is_some}
use Rattle.list_facts.proofs.Bits.{kept, kept_from, kept_none, LowestIsKept}
use Rattle.report_text.specs.SlotLines.{packet_text, row_text}

-- ---- places that hold nothing have no line

row_text-behind : (number : ℕ) (cores : List (Option ℕ)) (from count : ℕ) (row : List (Option ℕ)) → row_text number cores from (replicate count None ++ row) ≡ row_text number cores (from + count) row
row_text-behind number cores from zero row = let here : from ≡ from + 0 = omega arith in ap (λ (n : ℕ). row_text number cores n row) here
row_text-behind number cores from (suc count) row =
    let on : from + 1 + count ≡ from + suc count = omega arith in
    row_text-behind number cores (from + 1) count row ∙ ap (λ (n : ℕ). row_text number cores n row) on

row_text-none : (number : ℕ) (cores : List (Option ℕ)) (from count : ℕ) → row_text number cores from (replicate count None) ≡ []
row_text-none number cores from zero = refl
row_text-none number cores from (suc count) = row_text-none number cores (from + 1) count

-- what a word without bits keeps of a row has no line
pub text-of_no_bits : (number : ℕ) (cores : List (Option ℕ)) (from word : ℕ) (row : List (Option ℕ)) → word ≡ 0 → row_text number cores from (kept word row) ≡ []
text-of_no_bits number cores from word row none =
    ap (λ (n : ℕ). row_text number cores from (kept n row)) none ∙ (ap (row_text number cores from) (kept_none row) ∙ row_text-none number cores from (length row))

-- the line of the lowest bit's place comes before those of the other bits
pub text-of_lowest : (number : ℕ) (cores : List (Option ℕ)) (from word place : ℕ) (row : List (Option ℕ)) → LowestIsKept row word place
    → row_text number cores from (kept word row) ≡ packet_text number cores (from + place) (get_or row place None) ++ row_text number cores from (kept (bit_and word (word - 1)) row)
text-of_lowest number cores from word place row lowest =
    let held : Option ℕ = get_or row place None in
    let behind : List (Option ℕ) = kept_from (place + 1) word (drop (suc place) row) in
    ap (row_text number cores from) lowest.now
    ∙ (row_text-behind number cores from place (held ∷ behind)
    ∙ ap (λ (t : List ℕ). packet_text number cores (from + place) held ++ t) (sym (ap (row_text number cores from) lowest.then ∙ row_text-behind number cores from place (None ∷ behind))))

-- ---- how many places hold a destination

abbrev pub count_held : List (Option ℕ) → ℕ
count_held [] = 0
count_held (None ∷ row) = count_held row
count_held (Some dst ∷ row) = suc (count_held row)

pub held-most : (row : List (Option ℕ)) → count_held row ≤ length row
held-most [] = omega arith
held-most (None ∷ row) = omega (arith, held-most row)
held-most (Some dst ∷ row) = omega (arith, held-most row)

held-behind : (count : ℕ) (row : List (Option ℕ)) → count_held (replicate count None ++ row) ≡ count_held row
held-behind zero row = refl
held-behind (suc count) row = held-behind count row

held-first : (to : Option ℕ) (row : List (Option ℕ)) → is_some to ≡ true → count_held (to ∷ row) ≡ suc (count_held row)
held-first None row is = absurd (cc)
held-first (Some dst) row is = refl

-- without the lowest bit, one place fewer is kept
pub held-lowest : (word place : ℕ) (row : List (Option ℕ)) → LowestIsKept row word place → count_held (kept word row) ≡ suc (count_held (kept (bit_and word (word - 1)) row))
held-lowest word place row lowest =
    let held : Option ℕ = get_or row place None in
    let behind : List (Option ℕ) = kept_from (place + 1) word (drop (suc place) row) in
    ap count_held lowest.now
    ∙ (held-behind place (held ∷ behind)
    ∙ (held-first held behind lowest.held ∙ ap suc (sym (ap count_held lowest.then ∙ held-behind place (None ∷ behind)))))
