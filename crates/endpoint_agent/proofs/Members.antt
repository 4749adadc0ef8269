-- What stands in a list, by cases.
use Rattle.std.proofs.Common.{◌≡◌, ◌⊎◌, ℕ, zero, suc, ◌+◌, ◌<◌, ◌≤◌, Bool, true, ◌||◌, List, [], ◌∷◌, ◌++◌, map, filter, refl, sym, ◌∙◌, ap, subst, inl, inr, arith}
use Rattle.std.specs.List.{list_any, range_with_len}
use Rattle.std.proofs.lemmas.Bool.{cases_Bool, cases_eq, cond-true, cond-false, or_left, or_right}

abbrev pub Has : {X : Type 0} → List X → X → Type 0
Has [] x = ⊥
Has (y ∷ ys) x = (y ≡ x) ⊎ Has ys x

pub Has-left : {X : Type 0} (xs ys : List X) (x : X) → Has xs x → Has (xs ++ ys) x
Has-left [] ys x here = absurd here
Has-left (y ∷ xs) ys x here = elim here [
  | inl same ↦ inl same
  | inr later ↦ inr (Has-left xs ys x later)
]

pub Has-cases : {X : Type 0} (xs : List X) (last x : X) → Has (xs ++ last ∷ []) x → Has xs x ⊎ (last ≡ x)
Has-cases [] last x here = elim here [
  | inl same ↦ inr same
  | inr none ↦ absurd none
]
Has-cases (y ∷ xs) last x here = elim here [
  | inl same ↦ inl (inl same)
  | inr later ↦ elim (Has-cases xs last x later) [
    | inl there ↦ inl (inr there)
    | inr same ↦ inr same
  ]
]

pub Has-filter : {X : Type 0} (test : X → Bool) (xs : List X) (x : X) → Has xs x → test x ≡ true → Has (filter test xs) x
Has-filter test [] x here passes = absurd here
Has-filter test (y ∷ xs) x here passes = elim here [
  | inl same ↦ subst (λ ys. Has ys x) (sym (cond-true (test y) (y ∷ filter test xs) (filter test xs) (ap test same ∙ passes))) (inl same)
  | inr later ↦
      let there = Has-filter test xs x later passes in
      elim (cases_Bool (test y)) [
        | inl t ↦ subst (λ ys. Has ys x) (sym (cond-true (test y) (y ∷ filter test xs) (filter test xs) t)) (inr there)
        | inr f ↦ subst (λ ys. Has ys x) (sym (cond-false (test y) (y ∷ filter test xs) (filter test xs) f)) there
      ]
]

pub Has-filtered : {X : Type 0} (test : X → Bool) (xs : List X) (x : X) → Has (filter test xs) x → Has xs x × (test x ≡ true)
Has-filtered test [] x here = absurd here
Has-filtered test (y ∷ xs) x here = elim (cases_Bool (test y)) [
  | inl t ↦ elim (subst (λ ys. Has ys x) (cond-true (test y) (y ∷ filter test xs) (filter test xs) t) here) [
    | inl same ↦ (inl same, ap test (sym same) ∙ t)
    | inr later ↦ let (there, passes) = Has-filtered test xs x later in (inr there, passes)
  ]
  | inr f ↦ let (there, passes) = Has-filtered test xs x (subst (λ ys. Has ys x) (cond-false (test y) (y ∷ filter test xs) (filter test xs) f) here) in (inr there, passes)
]

pub any_from : {X : Type 0} (test : X → Bool) (xs : List X) (x : X) → Has xs x → test x ≡ true → list_any test xs ≡ true
any_from test [] x here passes = absurd here
any_from test (y ∷ xs) x here passes = elim here [
  | inl same ↦ or_left (test y) (list_any test xs) (ap test same ∙ passes)
  | inr later ↦ or_right (test y) (list_any test xs) (any_from test xs x later passes)
]

pub any_to : {X : Type 0} (test : X → Bool) (xs : List X) → list_any test xs ≡ true → (x : X) × Has xs x × (test x ≡ true)
any_to test [] any = absurd cc
any_to test (y ∷ xs) any = elim (cases_Bool (test y)) [
  | inl t ↦ (y, inl refl, t)
  | inr f ↦ let (x, there, passes) = any_to test xs (subst (λ (b : Bool). (b || list_any test xs) ≡ true) f any) in (x, inr there, passes)
]

pub Has-map : {X Y : Type 0} (f : X → Y) (xs : List X) (x : X) → Has xs x → Has (map f xs) (f x)
Has-map f [] x here = absurd here
Has-map f (y ∷ xs) x here = elim here [
  | inl same ↦ inl (ap f same)
  | inr later ↦ inr (Has-map f xs x later)
]

pub Has-mapped : {X Y : Type 0} (f : X → Y) (xs : List X) (y : Y) → Has (map f xs) y → (x : X) × Has xs x × (f x ≡ y)
Has-mapped f [] y here = absurd here
Has-mapped f (x ∷ xs) y here = elim here [
  | inl same ↦ (x, inl refl, same)
  | inr later ↦ let (z, there, same) = Has-mapped f xs y later in (z, inr there, same)
]

pub Has-range : (a n k : ℕ) → a ≤ k → k < a + n → Has (range_with_len a n) k
Has-range a zero k from to = absurd (omega arith)
Has-range a (suc n) k from to = elim (cases_eq a k) [
  | inl same ↦ inl same
  | inr other ↦ inr (Has-range (a + 1) n k (omega (arith, from, other)) (omega (arith, to)))
]
