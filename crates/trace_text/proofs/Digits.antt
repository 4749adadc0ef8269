-- The digits of a number, read from the left.
use Rattle.std.proofs.Common.{◌≡◌, ◌≢◌, ℕ, ◌+◌, ◌-◌, ◌*◌, ◌<◌, ◌≤◌, List, [], ◌∷◌, ◌++◌, length, take, drop, get_or, true, false, refl, sym, ap, ◌∙◌, inl, inr, arith}
use Rattle.std.specs.Prelude.{nat_le, ◌==◌}
use Rattle.std.specs.Char.{is_ascii_digit, digit_value}
use Rattle.std.specs.List.{list_all}
use Rattle.std.specs.Str.Parse.{digits_value, digits_value_after}
use Rattle.std.proofs.lemmas.List.Folds.{list_all_at}
use Rattle.std.proofs.lemmas.Str.Parse.{digits_value-take-le}
use Rattle.std.proofs.lemmas.Bool.Decides.{nat_tests}
use Rattle.std.proofs.lemmas.List.{drop_more, take_more}
use Rattle.trace_text.specs.Fields.{has_shape, is_number, number_of}
use Rattle.trace_text.specs.Lines.{IsLonger, IsNumberAt}

digits_value_after-append : (n : ℕ) (xs ys : List ℕ) → digits_value_after 10 n (xs ++ ys) ≡ digits_value_after 10 (digits_value_after 10 n xs) ys
digits_value_after-append n [] ys = refl
digits_value_after-append n (x ∷ xs) ys = digits_value_after-append (n * 10 + digit_value x) xs ys

digit-value : (c : ℕ) → is_ascii_digit c ≡ true → digit_value c ≡ c - 48
digit-value c digit = grind (arith, nat_tests)

-- one digit more
pub digits_value-more : (text : List ℕ) (i : ℕ) → i < length text → is_ascii_digit (get_or text i 0) ≡ true
    → digits_value 10 (take (i + 1) text) ≡ digits_value 10 (take i text) * 10 + (get_or text i 0 - 48)
digits_value-more text i lt digit =
    rw (take_more text i 0 lt)
    (digits_value_after-append 0 (take i text) (get_or text i 0 ∷ []) ∙ ap (λ d. digits_value 10 (take i text) * 10 + d) (digit-value (get_or text i 0) digit))

-- a byte that is no digit
pub not_number-at : (text : List ℕ) (i : ℕ) → i < length text → is_ascii_digit (get_or text i 0) ≡ false → is_number text ≡ false
unfolding is_number
not_number-at text i lt other = let all = list_all_at is_ascii_digit text i 0 lt other in rw all (grind (arith, nat_tests))

-- the digits so far are too much
pub not_number-large : (text : List ℕ) (i : ℕ) → 4294967295 < digits_value 10 (take i text) → is_number text ≡ false
unfolding is_number
not_number-large text i large =
    let more : digits_value 10 (take i text) ≤ digits_value 10 text = digits_value-take-le 10 text i (omega arith) in
    grind (arith, nat_tests)

-- a text of another shape
pub not_number-shape : (text : List ℕ) → has_shape text ≡ false → is_number text ≡ false
unfolding is_number
not_number-shape text other = grind (arith, nat_tests)

-- all that is asked of a number
pub number-all : (text : List ℕ) → has_shape text ≡ true → list_all is_ascii_digit text ≡ true → digits_value 10 text ≤ 4294967295 → is_number text ≡ true
unfolding is_number
number-all text shape digits small = let low : nat_le (digits_value 10 text) 4294967295 ≡ true = grind (arith, nat_tests) in rw (shape, digits, low) refl

-- this digit stands at a place
abbrev pub IsDigitAt : List ℕ → ℕ → ℕ → Type 0
IsDigitAt text at d = (is_ascii_digit (get_or text at 0) ≡ true) × (get_or text at 0 ≡ 48 + d) × (d < 10)

own : (text : List ℕ) (at d : ℕ) → IsDigitAt text at d → digit_value (get_or text at 0) ≡ d
own text at d (digit, is, few) = let v = digit-value (get_or text at 0) digit in omega arith

-- numbers of one, two and three digits
pub one-at : (text : List ℕ) (at a : ℕ) → at < length text → IsDigitAt text at a → IsNumberAt text at a (at + 1)
unfolding number_of
one-at text at a lt p =
    let x = get_or text at 0 in
    let v : digits_value 10 (x ∷ []) ≡ a = rw (own text at a p) (omega arith) in
    (x ∷ [], drop_more text at 0 lt, number-all (x ∷ []) refl (rw p.0 refl) (omega (arith, v, p.2)), sym v, omega arith)

pub two-at : (text : List ℕ) (at a b : ℕ) → at + 1 < length text → IsDigitAt text at a → IsDigitAt text (at + 1) b → a ≢ 0 → IsNumberAt text at (a * 10 + b) (at + 2)
unfolding number_of
two-at text at a b lt p q some =
    let x = get_or text at 0 in
    let y = get_or text (at + 1) 0 in
    let v : digits_value 10 (x ∷ y ∷ []) ≡ a * 10 + b = rw (own text at a p, own text (at + 1) b q) (omega arith) in
    let other : (x == 48) ≡ false = let is = p.1 in grind (arith, nat_tests) in
    let next : at + 1 + 1 ≡ at + 2 = omega arith in
    let all : drop at text ≡ x ∷ y ∷ drop (at + 2) text = drop_more text at 0 (omega arith) ∙ ap (λ (l : List ℕ). x ∷ l) (drop_more text (at + 1) 0 lt ∙ ap (λ k. y ∷ drop k text) next) in
    (x ∷ y ∷ [], all, number-all (x ∷ y ∷ []) (rw other refl) (rw (p.0, q.0) refl) (omega (arith, v, p.2, q.2)), sym v, omega arith)

pub three-at : (text : List ℕ) (at a b c : ℕ) → at + 2 < length text → IsDigitAt text at a → IsDigitAt text (at + 1) b → IsDigitAt text (at + 2) c → a ≢ 0 → IsNumberAt text at ((a * 10 + b) * 10 + c) (at + 3)
unfolding number_of
three-at text at a b c lt p q r some =
    let x = get_or text at 0 in
    let y = get_or text (at + 1) 0 in
    let z = get_or text (at + 2) 0 in
    let v : digits_value 10 (x ∷ y ∷ z ∷ []) ≡ (a * 10 + b) * 10 + c = rw (own text at a p, own text (at + 1) b q, own text (at + 2) c r) (omega arith) in
    let other : (x == 48) ≡ false = let is = p.1 in grind (arith, nat_tests) in
    let second : at + 1 + 1 ≡ at + 2 = omega arith in
    let third : at + 2 + 1 ≡ at + 3 = omega arith in
    let all : drop at text ≡ x ∷ y ∷ z ∷ drop (at + 3) text =
    drop_more text at 0 (omega arith)
    ∙ ap (λ (l : List ℕ). x ∷ l) (drop_more text (at + 1) 0 (omega arith) ∙ ap (λ k. y ∷ drop k text) second ∙ ap (λ (l : List ℕ). y ∷ l) (drop_more text (at + 2) 0 lt ∙ ap (λ k. z ∷ drop k text) third)) in
    (x ∷ y ∷ z ∷ [], all, number-all (x ∷ y ∷ z ∷ []) (rw other refl) (rw (p.0, q.0, r.0) refl) (omega (arith, v, p.2, q.2, r.2)), sym v, omega arith)

-- a number of two digits, and of one more where that stands behind them
pub longer-at : (text : List ℕ) (at a b n next : ℕ) → at + 2 < length text → IsDigitAt text at a → IsDigitAt text (at + 1) b → a ≢ 0 → IsLonger (get_or text (at + 2) 0) (a * 10 + b) n (at + 2) next
    → IsNumberAt text at n next
longer-at text at a b n next lt p q some (inl (same, stays)) = rw (same, stays) (two-at text at a b (omega arith) p q some)
longer-at text at a b n next lt p q some (inr (c, digit, is, few, more, behind)) =
    let third : next ≡ at + 3 = omega arith in
    rw (more, third) (three-at text at a b c lt p q (digit, is, few) some)

-- a number of one digit, and of one more where that stands behind it
pub longer-one : (text : List ℕ) (at a n next : ℕ) → at + 1 < length text → IsDigitAt text at a → a ≢ 0 → IsLonger (get_or text (at + 1) 0) a n (at + 1) next → IsNumberAt text at n next
longer-one text at a n next lt p some (inl (same, stays)) = rw (same, stays) (one-at text at a (omega arith) p)
longer-one text at a n next lt p some (inr (b, digit, is, few, more, behind)) =
    let second : next ≡ at + 2 = omega arith in
    rw (more, second) (two-at text at a b lt p (digit, is, few) some)
