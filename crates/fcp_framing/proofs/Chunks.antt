-- The lines of a list, as the chunks of the bytes behind a header.
use Rattle.std.proofs.Common.{◌≡◌, ℕ, zero, suc, ◌+◌, ◌-◌, ◌*◌, ◌≤◌, List, take, drop, refl, ap, ◌∙◌, arith}
use Rattle.std.specs.Simd.{first_chunks}
use Rattle.std.proofs.lemmas.List.{take-take, drop-take}

first_chunks-take : {X : Type 0} (n k m : ℕ) (xs : List X) → k * n ≤ m → first_chunks n k (take m xs) ≡ first_chunks n k xs
first_chunks-take n zero m xs h = refl
first_chunks-take n (suc k) m xs h =
    let more : suc k * n ≡ n + k * n = grind arith in
    let parts : m ≡ n + (m - n) = omega arith in
    let behind : drop n (take m xs) ≡ take (m - n) (drop n xs) = ap (λ (j : ℕ). drop n (take j xs)) parts ∙ drop-take n (m - n) xs in
    rw (take-take n m xs (omega arith), behind, first_chunks-take n k (m - n) (drop n xs) (omega arith)) refl

-- the chunks of a part that holds just so many
pub first_chunks-part : {X : Type 0} (n k m j : ℕ) (xs : List X) → j ≡ k → k * n ≤ m → first_chunks n j (take m xs) ≡ first_chunks n k xs
first_chunks-part n k m j xs same within = ap (λ (i : ℕ). first_chunks n i (take m xs)) same ∙ first_chunks-take n k m xs within
