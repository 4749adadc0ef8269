-- What the version of a connection sets: how late a number may come, and how far numbers run ahead. From this project's own profile.
use Rattle.std.specs.Prelude.{◌≡◌, ℕ, ◌==◌, if◌then◌else◌}

-- how far a number may come after a greater one and still be taken
abbrev pub reorder_of : ℕ → ℕ
reorder_of version = if version == 2 then 16 else 4

-- how far a new number may be above the oldest open one, and the bits of a mask
abbrev pub span_of : ℕ → ℕ
span_of version = if version == 2 then 128 else 64

-- the numbers themselves
pub record EachVersionHasItsLimits : Type 0 where
  pub first_reorder : reorder_of 1 ≡ 4
  pub first_span : span_of 1 ≡ 64
  pub second_reorder : reorder_of 2 ≡ 16
  pub second_span : span_of 2 ≡ 128
