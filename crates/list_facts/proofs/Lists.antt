-- Lists.
use Rattle.std.proofs.Common.{◌≡◌, ℕ, zero, suc, ◌+◌, List, [], ◌∷◌, ◌++◌, ◌∙◌, ap, arith, take, drop, sym, ◌-◌, min, inl, inr, ◌≤◌, length, refl, filter, Bool, ◌<◌, Some, map, All, false, true}
use Rattle.std.proofs.lemmas.Bool.{cases_lt, cond_both, cond-false, cond-true}
use Rattle.std.proofs.lemmas.List.{take_all, take_more, append-nil, length-drop}
use Rattle.std.proofs.lemmas.Option.{slice_get_within, get_or_from_slice_get}
use Rattle.std.proofs.lemmas.List.Concat.{flat_map-append}
use Rattle.std.proofs.lemmas.List.Elements.{All-tail, All-head, All-nil, All-cons, All-append}
use Rattle.std.specs.List.{range_with_len, flat_map}
use Rattle.std.specs.Prelude.{slice_get}
use Rattle.std.proofs.lemmas.List.Sums.{sum_by-cons}
use Rattle.std.specs.Prelude.{sum_by}

pub next_number : (from count : ℕ) → range_with_len from (count + 1) ≡ range_with_len from count ++ (from + count) ∷ []
next_number from zero = let same : from ≡ from + 0 = omega arith in ap (λ (n : ℕ). n ∷ []) same
next_number from (suc count) =
    let on : from + 1 + count ≡ from + suc count = omega arith in
    let long : suc count + 1 ≡ suc (count + 1) = omega arith in
    ap (range_with_len from) long ∙ (ap (λ (ns : List ℕ). from ∷ ns) (next_number (from + 1) count) ∙ ap (λ (n : ℕ). from ∷ (range_with_len (from + 1) count ++ n ∷ [])) on)

pub range_both : (from m k : ℕ) → range_with_len from (m + k) ≡ range_with_len from m ++ range_with_len (from + m) k
range_both from zero k = let here : from ≡ from + 0 = omega arith in let none : 0 + k ≡ k = omega arith in ap (range_with_len from) none ∙ ap (λ (a : ℕ). range_with_len a k) here
range_both from (suc m) k =
    let next : from + 1 + m ≡ from + suc m = omega arith in
    let more : suc m + k ≡ suc (m + k) = omega arith in
    ap (range_with_len from) more ∙ ap (λ (xs : List ℕ). from ∷ xs) (range_both (from + 1) m k ∙ ap (λ (a : ℕ). range_with_len (from + 1) m ++ range_with_len a k) next)

pub flat-last : {X : Type 0} (f : ℕ → List X) (a n : ℕ) → flat_map f (range_with_len a (n + 1)) ≡ flat_map f (range_with_len a n) ++ f (a + n)
flat-last f a n =
    ap (flat_map f) (range_both a n 1) ∙ (flat_map-append f (range_with_len a n) (range_with_len (a + n) 1) ∙ ap (λ xs. flat_map f (range_with_len a n) ++ xs) (append-nil (f (a + n))))

pub filter-few : {X : Type 0} (p : X → Bool) (xs : List X) → length (filter p xs) ≤ length xs
filter-few p [] = omega arith
filter-few p (x ∷ xs) = cond_both (p x) (x ∷ filter p xs) (filter p xs) (λ l. length l ≤ length (x ∷ xs)) (λ _. omega (arith, filter-few p xs)) (λ _. omega (arith, filter-few p xs))

pub get_within : {X : Type 0} (f : ℕ → X) (a n place : ℕ) → place < n → slice_get (map f (range_with_len a n)) place ≡ Some (f (a + place))
get_within f a zero place below = absurd (omega arith)
get_within f a (suc n) zero below = ap (λ (k : ℕ). Some (f k)) (omega arith)
get_within f a (suc n) (suc place) below = get_within f (a + 1) n place (omega arith) ∙ ap (λ (k : ℕ). Some (f k)) (omega arith)

pub all_back : {X : Type 0} (P : X → Type 0) (xs ys : List X) → All P (xs ++ ys) → All P ys
all_back P [] ys all = all
all_back P (x ∷ xs) ys all = all_back P xs ys (All-tail P x (xs ++ ys) all)

pub filter_none : {X : Type 0} (p : X → Bool) (xs : List X) → All (λ x. p x ≡ false) xs → filter p xs ≡ []
filter_none p [] none = refl
filter_none p (x ∷ xs) none =
    cond-false (p x) (x ∷ filter p xs) (filter p xs) (All-head (λ x. p x ≡ false) x xs none) ∙ filter_none p xs (All-tail (λ x. p x ≡ false) x xs none)

pub filter_all : {X : Type 0} (p : X → Bool) (xs : List X) → All (λ x. p x ≡ true) xs → filter p xs ≡ xs
filter_all p [] all = refl
filter_all {X = X} p (x ∷ xs) all =
    cond-true (p x) (x ∷ filter p xs) (filter p xs) (All-head (λ x. p x ≡ true) x xs all)
    ∙ ap (λ (ys : List X). x ∷ ys) (filter_all p xs (All-tail (λ x. p x ≡ true) x xs all))

pub All-front : {X : Type 0} (P : X → Type 0) (xs ys : List X) → All P (xs ++ ys) → All P xs
All-front P [] ys all = All-nil P
All-front P (x ∷ xs) ys all = All-cons P x xs (All-head P x (xs ++ ys) all) (All-front P xs ys (All-tail P x (xs ++ ys) all))

pub All-flat : {X : Type 0} (P : X → Type 0) (f : ℕ → List X) (ks : List ℕ) → ((k : ℕ) → All P (f k)) → All P (flat_map f ks)
All-flat P f [] all = All-nil P
All-flat P f (k ∷ ks) all = All-append P (f k) (flat_map f ks) (all k) (All-flat P f ks all)

pub take_on : {X : Type 0} (n m : ℕ) (xs : List X) → take (n + m) xs ≡ take n xs ++ take m (drop n xs)
take_on zero m xs = ap (λ (k : ℕ). take k xs) (let q : 0 + m ≡ m = omega arith in q)
take_on {X} (suc n) m [] = take_all {A = X} (suc n + m) [] (omega arith) ∙ sym (take_all {A = X} m [] (omega arith))
take_on (suc n) m (x ∷ xs) = ap (λ (k : ℕ). take k (x ∷ xs)) (let q : suc n + m ≡ suc (n + m) = omega arith in q) ∙ ap (λ ys. x ∷ ys) (take_on n m xs)

pub sum_by-map : {X Y : Type 0} (f : Y → ℕ) (g : X → Y) (xs : List X) → sum_by f (map g xs) ≡ sum_by (λ x. f (g x)) xs
sum_by-map f g [] = refl
sum_by-map f g (x ∷ xs) = omega (arith, sum_by-cons f (g x) (map g xs), sum_by-cons (λ y. f (g y)) x xs, sum_by-map f g xs)

-- the element that is read next is the next of those that are read
pub take_got : {X : Type 0} (xs : List X) (i : ℕ) (x : X) → slice_get xs i ≡ Some x → take (i + 1) xs ≡ take i xs ++ x ∷ []
take_got {X = X} xs i x is = take_more xs i x (slice_get_within xs i x is) ∙ ap (λ (y : X). take i xs ++ y ∷ []) (get_or_from_slice_get xs i x x is)

-- the part from a place on, of which at most so many elements are left
pub part_within : {X : Type 0} (xs : List X) (from count end : ℕ) → from ≤ length xs → end ≡ min (length xs) (from + count) → take (end - from) (drop from xs) ≡ take count (drop from xs)
part_within xs from count end within is = elim (cases_lt (length xs) (from + count)) [
  | inl short ↦
      take_all (end - from) (drop from xs) (omega (arith, length-drop from xs, is, short)) ∙ sym (take_all count (drop from xs) (omega (arith, length-drop from xs, short)))
  | inr long ↦ let whole : end - from ≡ count = omega (arith, is, long) in ap (λ (n : ℕ). take n (drop from xs)) whole
]
