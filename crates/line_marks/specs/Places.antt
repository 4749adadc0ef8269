-- Which of 256 places are marked (this project's own profile).
use Rattle.std.specs.Prelude.{ℕ, Bool, List}
use Rattle.list_facts.specs.Bits.{names_place}

-- the marks as bits, 64 places a word
pub record Places : Type 0 where
  pub words : List ℕ

abbrev pub is_marked : Places → ℕ → Bool
is_marked places place = names_place places.words place
