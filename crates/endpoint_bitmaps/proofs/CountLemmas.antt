-- The lowest slots that pass a test, and how many they are.
use Rattle.std.proofs.Common.{◌≡◌, ◌<◌, ◌≤◌, ◌+◌, ℕ, zero, suc, Bool, true, false, not, ◌==◌, ◌&&◌, nat_lt, cond, min, refl, sym, ap, ◌∙◌, arith, inl, inr}
use Rattle.std.proofs.lemmas.Bool.{cases_Bool, cases_eq, cases_lt, lt-ltb, le-ltb, ltb-true, ltb-false, and_parts, and_left, and_right, not-true, not-false, both_ways, and_from, eq-eqb, ne_eqb}
use Rattle.endpoint_bitmaps.specs.Slots.{count_below, is_among_lowest, NoneFrom}

pub count_below-same : (p q : ℕ → Bool) (n : ℕ) → ((k : ℕ) → k < n → p k ≡ q k) → count_below p n ≡ count_below q n
count_below-same p q zero agree = refl
count_below-same p q (suc n) agree =
    ap (λ (b : Bool). cond b 1 0 + count_below (λ k. p (suc k)) n) (agree 0 (omega arith))
    ∙ ap (λ (m : ℕ). cond (q 0) 1 0 + m) (count_below-same (λ k. p (suc k)) (λ k. q (suc k)) n (λ k below. agree (suc k) (omega arith)))

pub count_below-more : (p : ℕ → Bool) (n : ℕ) → count_below p (suc n) ≡ count_below p n + cond (p n) 1 0
count_below-more p zero = omega arith
count_below-more p (suc n) = let more = count_below-more (λ k. p (suc k)) n in omega (arith, more)

pub count_below-passes : (p : ℕ → Bool) (n : ℕ) → p n ≡ true → count_below p (suc n) ≡ count_below p n + 1
count_below-passes p n passes = count_below-more p n ∙ ap (λ (b : Bool). count_below p n + cond b 1 0) passes

count_below-fails : (p : ℕ → Bool) (n : ℕ) → p n ≡ false → count_below p (suc n) ≡ count_below p n
count_below-fails p n fails = count_below-more p n ∙ (ap (λ (b : Bool). count_below p n + cond b 1 0) fails ∙ omega arith)

pub count_below-rises : (p : ℕ → Bool) (j k : ℕ) → j ≤ k → count_below p j ≤ count_below p k
count_below-rises p zero k below = omega arith
count_below-rises p (suc j) zero below = absurd (omega arith)
count_below-rises p (suc j) (suc k) below = let rest = count_below-rises (λ i. p (suc i)) j k (omega arith) in omega (arith, rest)

-- from where on none passes, the count stays
count_stays : (p : ℕ → Bool) (n m : ℕ) → n ≤ m → NoneFrom n p → count_below p m ≡ count_below p n
count_stays p n zero from none = let both : zero ≡ n = omega arith in ap (count_below p) both
count_stays p n (suc m) from none = elim (cases_lt m n) [
  | inl last ↦ let both : suc m ≡ n = omega arith in ap (count_below p) both
  | inr more ↦ count_below-fails p m (none m more) ∙ count_stays p n m more none
]

pub count_of_all : (p : ℕ → Bool) (n m : ℕ) → NoneFrom n p → NoneFrom m p → count_below p m ≡ count_below p n
count_of_all p n m none none_either = elim (cases_lt n m) [
  | inl less ↦ count_stays p n m (omega arith) none
  | inr more ↦ sym (count_stays p m n more none_either)
]

-- the lowest are so many, or all
pub count_of_lowest : (p : ℕ → Bool) (need n : ℕ) → count_below (is_among_lowest p need) n ≡ min need (count_below p n)
count_of_lowest p need zero = omega arith
count_of_lowest p need (suc n) =
    let so_far = count_of_lowest p need n in
    elim (cases_Bool (p n)) [
      | inl passes ↦
          let all = count_below-passes p n passes in
          elim (cases_lt (count_below p n) need) [
            | inl few ↦ let one = count_below-passes (is_among_lowest p need) n (and_from _ _ passes (lt-ltb _ _ few)) in omega (arith, so_far, all, one)
            | inr enough ↦ let none = count_below-fails (is_among_lowest p need) n (ap (λ (b : Bool). b && nat_lt (count_below p n) need) passes ∙ le-ltb _ _ enough) in omega (arith, so_far, all, none)
          ]
      | inr fails ↦
          let all = count_below-fails p n fails in
          let none = count_below-fails (is_among_lowest p need) n (and_left _ _ fails) in
          omega (arith, so_far, all, none)
    ]

pub is_among_lowest-same : (p q : ℕ → Bool) (need k : ℕ) → ((j : ℕ) → p j ≡ q j) → is_among_lowest p need k ≡ is_among_lowest q need k
is_among_lowest-same p q need k agree =
    ap (λ (b : Bool). b && nat_lt (count_below p k) need) (agree k)
    ∙ ap (λ (n : ℕ). q k && nat_lt n need) (count_below-same p q k (λ j below. agree j))

-- the slots that are left once the lowest i are taken
abbrev pub is_left : (ℕ → Bool) → ℕ → ℕ → Bool
is_left p i k = p k && not (nat_lt (count_below p k) i)

-- where nothing below is left, at most i pass below
pub few_below : (p : ℕ → Bool) (t i : ℕ) → ((k : ℕ) → k < t → is_left p i k ≡ false) → count_below p t ≤ i
few_below p zero i none = omega arith
few_below p (suc t) i none =
    let so_far = few_below p t i (λ k below. none k (omega arith)) in
    elim (cases_Bool (p t)) [
      | inl passes ↦
          let here : not (nat_lt (count_below p t) i) ≡ false = ap (λ (b : Bool). b && not (nat_lt (count_below p t) i)) (sym passes) ∙ none t (omega arith) in
          let fewer = ltb-true (count_below p t) i (not-false _ here) in
          omega (arith, count_below-passes p t passes, fewer)
      | inr fails ↦ omega (arith, count_below-fails p t fails, so_far)
    ]

is_left-parts : (p : ℕ → Bool) (i k : ℕ) → is_left p i k ≡ true → (p k ≡ true) × (i ≤ count_below p k)
is_left-parts p i k left =
    let parts = and_parts (p k) (not (nat_lt (count_below p k) i)) left in
    (parts.0, ltb-false (count_below p k) i (not-true _ parts.1))

is_left-from : (p : ℕ → Bool) (i k : ℕ) → p k ≡ true → i ≤ count_below p k → is_left p i k ≡ true
is_left-from p i k passes enough = and_from _ _ passes (ap not (le-ltb (count_below p k) i enough))

is_left-not : (p : ℕ → Bool) (i k : ℕ) → count_below p k < i → is_left p i k ≡ false
is_left-not p i k few = and_right _ _ (ap not (lt-ltb (count_below p k) i few))

-- the lowest that is left is taken
pub one_more_taken : (p : ℕ → Bool) (i t k : ℕ) → is_left p i t ≡ true → ((j : ℕ) → j < t → is_left p i j ≡ false) → is_left p (suc i) k ≡ (is_left p i k && not (k == t))
one_more_taken p i t k left lowest =
    let it = is_left-parts p i t left in
    let few = few_below p t i lowest in
    elim (cases_lt k t) [
      | inl below ↦
          let gone = lowest k below in
          (elim (cases_Bool (p k)) [
            | inl passes ↦ is_left-not p (suc i) k (omega (arith, few, count_below-rises p k t (omega arith)))
            | inr fails ↦ and_left _ _ fails
          ]) ∙ sym (and_left _ _ gone)
      | inr above ↦ elim (cases_eq k t) [
        | inl here ↦ is_left-not p (suc i) k (rw here (omega (arith, few))) ∙ sym (and_right _ _ (ap not (eq-eqb k t here)))
        | inr there ↦ elim (cases_Bool (p k)) [
          | inl passes ↦
              let many = count_below-rises p (suc t) k (omega arith) in
              let one = count_below-passes p t it.0 in
              is_left-from p (suc i) k passes (omega (arith, many, one, it.1))
              ∙ sym (and_from _ _ (is_left-from p i k passes (omega (arith, many, one, it.1))) (ap not (ne_eqb k t there)))
          | inr fails ↦ and_left _ _ fails ∙ sym (and_left _ _ (and_left _ _ fails))
        ]
      ]
    ]

-- what is not left is taken
pub taken_is : (p : ℕ → Bool) (i need k : ℕ) → i ≤ need → (i < need → is_left p i k ≡ false) → (p k && not (is_left p i k)) ≡ is_among_lowest p need k
taken_is p i need k within all = elim (cases_Bool (p k)) [
  | inl passes ↦ elim (cases_lt (count_below p k) i) [
    | inl few ↦ and_from _ _ passes (ap not (is_left-not p i k few)) ∙ sym (and_from _ _ passes (lt-ltb _ _ (omega arith)))
    | inr enough ↦
        let left = is_left-from p i k passes enough in
        elim (cases_lt i need) [
          | inl before ↦ absurd (both_ways (is_left p i k) (all before) left)
          | inr end ↦ and_right _ _ (ap not left) ∙ sym (and_right _ _ (le-ltb (count_below p k) need (omega arith)))
        ]
  ]
  | inr fails ↦ and_left _ _ fails ∙ sym (and_left _ _ fails)
]
