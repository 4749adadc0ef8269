-- What a window keeps true of its unresolved numbers, so that they fit it and the newest one is at hand where it goes again. From this project's own profile.
use Rattle.std.specs.Prelude.{◌≢◌, ℕ, ◌+◌, ◌-◌, ◌≤◌, List, [], ◌∷◌}
use Rattle.ack_window.specs.declared.send_window.Unresolved.{Unresolved}

module _ {T : Type 0} where
  -- the numbers rise strictly, from low up to high
  abbrev pub RisesWithin : ℕ → ℕ → List (Unresolved T) → Type 0
  RisesWithin low high [] = Unit {0}
  RisesWithin low high (s ∷ rest) = (low ≤ s.number) × (s.number ≤ high) × RisesWithin (s.number + 1) high rest

  -- the greatest of numbers that rise, 0 for none
  abbrev pub last_number : List (Unresolved T) → ℕ
  last_number [] = 0
  last_number (s ∷ []) = s.number
  last_number (s ∷ t ∷ rest) = last_number (t ∷ rest)

  -- unresolved numbers are at most span below the newest, and at most reorder below it once the newest is resolved
  pub record IsKept (reorder span newest : ℕ) (unresolved : List (Unresolved T)) : Type 0 where
    pub within : RisesWithin (newest - span) newest unresolved
    pub once_resolved : last_number unresolved ≢ newest → RisesWithin (newest - reorder) newest unresolved
