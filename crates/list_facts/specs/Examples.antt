-- Small sorted lists in full (this project's own profile).
use Rattle.std.specs.Prelude.{◌≡◌, ℕ, [], ◌∷◌}
use Rattle.list_facts.specs.Order.{sort_by}

abbrev pub TheLeastComesFirst : Type 0
TheLeastComesFirst = sort_by (λ (n : ℕ). n) (3 ∷ 1 ∷ 2 ∷ []) ≡ 1 ∷ 2 ∷ 3 ∷ []

-- By the first of two numbers: those with the same stay as they stood.
abbrev pub TiesStayInOrder : Type 0
TiesStayInOrder = sort_by (λ (p : ℕ × ℕ). p.0) ((2, 7) ∷ (1, 9) ∷ (2, 5) ∷ (1, 8) ∷ []) ≡ (1, 9) ∷ (1, 8) ∷ (2, 7) ∷ (2, 5) ∷ []
