-- Numbers within what their fields hold, field by field.
use Rattle.std.proofs.Common.{◌≡◌, zero, suc, ◌+◌, ◌<◌, ◌≤◌, ℕ, List, [], ◌∷◌, ◌^◌, All, Bool, true, false, ltb, get_or, length, drop, refl, sym, ap, ◌∙◌, inl, inr, arith}
use Rattle.std.proofs.Math.ListN.{set}
use Rattle.std.specs.List.{list_all}
use Rattle.std.proofs.lemmas.Bool.{cases_lt, cases_Bool, ltb-true}
use Rattle.std.proofs.lemmas.List.Folds.{list_all_at}
use Rattle.std.proofs.lemmas.List.{get_or_default, get_or-drop, get_or-set_same, get_or-set_other}
use Rattle.report_text.specs.Lines.{WithinFrom, AreWithin, bit}

within_from : (i : ℕ) (mosts ns : List ℕ) → ((k : ℕ) → k < length mosts → get_or ns (i + k) 0 ≤ get_or mosts k 0) → WithinFrom i mosts ns
within_from i [] ns each = tt
within_from i (most ∷ mosts) ns each =
    let first : get_or ns (i + 0) 0 ≤ most = each 0 (omega arith) in
    let here : i + 0 ≡ i = omega arith in (
      rw here at first,
      within_from (i + 1) mosts ns (λ k below.
          let next : i + suc k ≡ i + 1 + k = omega arith in
          rw next at (each (suc k) (omega arith))),
    )

at_from : (i : ℕ) (mosts ns : List ℕ) → WithinFrom i mosts ns → (k : ℕ) → k < length mosts → get_or ns (i + k) 0 ≤ get_or mosts k 0
at_from i [] ns within k below = absurd (omega arith)
at_from i (most ∷ mosts) ns within zero below = let here : i + 0 ≡ i = omega arith in rw here within.0
at_from i (most ∷ mosts) ns within (suc k) below =
    let next : i + suc k ≡ i + 1 + k = omega arith in
    rw next (at_from (i + 1) mosts ns within.1 k (omega arith))

pub within_each : (mosts ns : List ℕ) → ((k : ℕ) → k < length mosts → get_or ns k 0 ≤ get_or mosts k 0) → AreWithin mosts ns
within_each mosts ns each = within_from 0 mosts ns (λ k below. let here : 0 + k ≡ k = omega arith in rw here (each k below))

pub within_at : (mosts ns : List ℕ) → AreWithin mosts ns → (k : ℕ) → k < length mosts → get_or ns k 0 ≤ get_or mosts k 0
within_at mosts ns within k below = let here : 0 + k ≡ k = omega arith in rw here at (at_from 0 mosts ns within k below)

-- ---- a walk that puts each number in the place of its bound

pub left_here : (i : ℕ) (xs ys : List ℕ) → drop i xs ≡ drop i ys → get_or xs i 0 ≡ get_or ys i 0
left_here i xs ys same =
    let here : i + 0 ≡ i = omega arith in
    ap (λ (k : ℕ). get_or xs k 0) (sym here) ∙ sym (get_or-drop i xs 0 0) ∙ ap (λ (t : List ℕ). get_or t 0 0) same ∙ get_or-drop i ys 0 0 ∙ ap (λ (k : ℕ). get_or ys k 0) here

pub within_more : (i n : ℕ) (xs mosts : List ℕ) → i < length xs → ((k : ℕ) → k < i → get_or xs k 0 ≤ get_or mosts k 0) → n ≤ get_or mosts i 0 → (k : ℕ) → k < i + 1 → get_or (set xs i n) k 0 ≤ get_or mosts k 0
within_more i n xs mosts below before now k under =
    elim (cases_lt k i) [
      | inl earlier ↦ rw (get_or-set_other xs i k n 0 (λ (e : k ≡ i). omega arith)) (before k earlier)
      | inr last ↦ let here : k ≡ i = omega arith in rw (here, get_or-set_same xs i n 0 below) now
    ]

-- ---- numbers of a line fit 64 bits, and a flag is told by its digit

pub all_within : (mosts ns : List ℕ) → length ns ≡ length mosts → list_all (λ (most : ℕ). ltb most (2 ^ 64)) mosts ≡ true → AreWithin mosts ns → All (λ n. n < 2 ^ 64) ns
all_within mosts ns len small within k d below =
    elim (cases_Bool (ltb (get_or mosts k 0) (2 ^ 64))) [
      | inl fits ↦ omega (arith, ltb-true (get_or mosts k 0) (2 ^ 64) fits, within_at mosts ns within k (omega (arith, len)), get_or_default ns k d 0 below)
      | inr fails ↦ let none = list_all_at (λ (most : ℕ). ltb most (2 ^ 64)) mosts k 0 (omega (arith, len)) fails in absurd cc
    ]

pub bit_same : (a b : Bool) → bit a ≡ bit b → a ≡ b
bit_same true true same = refl
bit_same true false same = absurd (omega (arith, same))
bit_same false true same = absurd (omega (arith, same))
bit_same false false same = refl
