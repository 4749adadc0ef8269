-- Bytes that come to the arbiter from outside. From this project's own profile.
use Rattle.std.specs.Prelude.{ℕ, List}

-- the bytes, with their place among those of the round
pub record Raw : Type 0 where
  pub place : ℕ
  pub bytes : List ℕ
