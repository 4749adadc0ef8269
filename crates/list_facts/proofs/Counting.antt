-- How many elements of a list have a property.
use Rattle.std.proofs.Common.{ℕ, Bool, cond, ◌≡◌, ◌+◌, List, ◌∷◌, count_by, ◌++◌, false, [], All, refl, arith, map}
use Rattle.std.proofs.lemmas.Bool.{cond-false}
use Rattle.std.proofs.lemmas.List.Elements.{All-head, All-tail}
use Rattle.std.proofs.lemmas.List.Sums.{sum_by-cons, sum_by-append}

abbrev pub one_of : {X : Type 0} → (X → Bool) → X → ℕ
one_of p x = cond (p x) 1 0

pub count-cons : {X : Type 0} (p : X → Bool) (x : X) (xs : List X) → count_by p (x ∷ xs) ≡ one_of p x + count_by p xs
count-cons p x xs = sum_by-cons (one_of p) x xs

pub count-append : {X : Type 0} (p : X → Bool) (xs ys : List X) → count_by p (xs ++ ys) ≡ count_by p xs + count_by p ys
count-append p xs ys = sum_by-append (one_of p) xs ys

pub count-none : {X : Type 0} (p : X → Bool) (xs : List X) → All (λ x. p x ≡ false) xs → count_by p xs ≡ 0
count-none p [] all = refl
count-none p (x ∷ xs) all =
    let here : one_of p x ≡ 0 = cond-false (p x) 1 0 (All-head (λ y. p y ≡ false) x xs all) in
    omega (arith, count-cons p x xs, here, count-none p xs (All-tail (λ y. p y ≡ false) x xs all))

pub count-map : {X Y : Type 0} (p : Y → Bool) (f : X → Y) (xs : List X) → count_by p (map f xs) ≡ count_by (λ x. p (f x)) xs
count-map p f [] = refl
count-map p f (x ∷ xs) = omega (arith, count-cons p (f x) (map f xs), count-cons (λ y. p (f y)) x xs, count-map p f xs)
