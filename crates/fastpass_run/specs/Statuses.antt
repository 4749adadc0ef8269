-- The statuses that a run may end with.
use Rattle.std.specs.Prelude.{◌≡◌, ◌⊎◌, ℕ, List, [], ◌∷◌}

-- the status is one of these
abbrev pub IsStatusAmong : ℕ → List ℕ → Type 0
IsStatusAmong status [] = ⊥
IsStatusAmong status (one ∷ others) = (status ≡ one) ⊎ IsStatusAmong status others
