-- Truth values.
use Rattle.std.proofs.Common.{◌≡◌, ◌≤◌, ℕ, Bool, true, false, ◌==◌, cond, refl, sym, ◌∙◌, inl, inr, arith, not, ◌&&◌, ◌||◌}
use Rattle.std.proofs.lemmas.Bool.{cases_eq, eq-eqb, ne_eqb}

pub bit_test : (b : Bool) → (cond b 1 0 == 1) ≡ b
bit_test true = refl
bit_test false = refl

pub at_most_one : (b : Bool) → cond {A = ℕ} b 1 0 ≤ 1
at_most_one true = omega arith
at_most_one false = omega arith

pub cond-same : {X : Type 0} (b : Bool) (x : X) → cond b x x ≡ x
cond-same true x = refl
cond-same false x = refl

pub neither : (p q : Bool) → (not p && not q) ≡ not (p || q)
neither true q = refl
neither false q = refl

-- what never holds adds nothing
pub never_or : (b c : Bool) → ((b && false) || c) ≡ c
never_or true c = refl
never_or false c = refl

-- where one isn't without the other
pub not_without : (b c : Bool) → (b && not c) ≡ false → b ≡ true → c ≡ true
not_without true true without is = refl
not_without true false without is = absurd cc
not_without false c without is = absurd cc

-- two numbers are compared the same way round either way
pub eqb_turned : (a b : ℕ) → (a == b) ≡ (b == a)
eqb_turned a b = elim (cases_eq a b) [
  | inl same ↦ eq-eqb a b same ∙ sym (eq-eqb b a (sym same))
  | inr other ↦ ne_eqb a b other ∙ sym (ne_eqb b a (λ e. other (sym e)))
]
