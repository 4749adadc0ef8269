-- What is among a list.
use Rattle.std.proofs.Common.{List, [], ◌∷◌, ◌++◌, inl, inr}
use Rattle.std.specs.Prelude.{◌⊎◌}
use Rattle.endpoint_history.specs.Tellings.{Among}

pub among-append : {X : Type 0} (x : X) (xs ys : List X) → Among x (xs ++ ys) → Among x xs ⊎ Among x ys
among-append x [] ys among = inr among
among-append x (y ∷ xs) ys among = elim among [
  | inl here ↦ inl (inl here)
  | inr there ↦ elim (among-append x xs ys there) [ inl left ↦ inl (inr left) | inr right ↦ inr right ]
]
