-- The test that numbers rise strictly, and the fact.
use Rattle.std.proofs.Common.{◌≡◌, ℕ, zero, suc, ◌+◌, Bool, true, ltb, leb, ◌&&◌, List, [], ◌∷◌, refl, ap, arith}
use Rattle.std.specs.List.Sorted.{IsStrictlyIncreasing}
use Rattle.std.proofs.lemmas.Bool.{ltb-true, lt-ltb, le-leb, and_parts}
use Rattle.fcp_framing.specs.Refusals.{is_rising}

pub increasing_from_rising : (xs : List ℕ) → is_rising xs ≡ true → IsStrictlyIncreasing xs
unfolding is_rising
increasing_from_rising [] e k lt = absurd (omega arith)
increasing_from_rising (x ∷ []) e k lt = absurd (omega arith)
increasing_from_rising (x ∷ y ∷ xs) e zero lt = ltb-true x y (and_parts (ltb x y) (is_rising (y ∷ xs)) e).0
increasing_from_rising (x ∷ y ∷ xs) e (suc k) lt =
    let next : suc k + 1 ≡ suc (k + 1) = omega arith in
    rw next (increasing_from_rising (y ∷ xs) (and_parts (ltb x y) (is_rising (y ∷ xs)) e).1 k (omega arith))

pub rising_from_increasing : (xs : List ℕ) → IsStrictlyIncreasing xs → is_rising xs ≡ true
unfolding is_rising
rising_from_increasing [] h = refl
rising_from_increasing (x ∷ []) h = refl
rising_from_increasing (x ∷ y ∷ xs) h =
    let first : ltb x y ≡ true = lt-ltb x y (h 0 (omega arith)) in
    let rest : is_rising (y ∷ xs) ≡ true = rising_from_increasing (y ∷ xs) (λ k lt. let next : suc k + 1 ≡ suc (k + 1) = omega arith in rw next at (h (suc k) (omega arith))) in
    rw (first, rest) refl

-- the numbers rise strictly, the first of them from `least` on
abbrev pub rises_from : ℕ → List ℕ → Bool
rises_from least [] = true
rises_from least (x ∷ xs) = leb least x && rises_from (x + 1) xs

rises_from-next : (x : ℕ) (xs : List ℕ) → rises_from (x + 1) xs ≡ is_rising (x ∷ xs)
unfolding is_rising
rises_from-next x [] = refl
rises_from-next x (y ∷ xs) =
    let next : x + 1 ≡ suc x = omega arith in
    let first : leb (x + 1) y ≡ ltb x y = ap (λ (least : ℕ). leb least y) next in
    rw (first, rises_from-next y xs) refl

-- a walk that keeps the least number that may come tests the whole
pub rises_from-none : (xs : List ℕ) → rises_from 0 xs ≡ is_rising xs
unfolding is_rising
rises_from-none [] = refl
rises_from-none (x ∷ xs) =
    let first : leb 0 x ≡ true = le-leb 0 x (omega arith) in
    rw first (rises_from-next x xs)
