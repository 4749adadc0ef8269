-- Equal rows of destinations are rows of equal slots.
use Rattle.std.proofs.Common.{◌≡◌, ℕ, List, Bool, IsTrue, Option, Some, None, refl, sym, ap, ◌∙◌}
use Rattle.std.specs.Bool.{Decides}
use Rattle.std.specs.Cmp.Lexicographic.{pointwise}
use Rattle.std.specs.Option.{option_eq}
use Rattle.std.proofs.Math.Dec.{eqb}
use Rattle.std.proofs.lemmas.Bool.Decides.{Decides-eqb}
use Rattle.std.proofs.lemmas.Option.{same_Some}
use Rattle.std.proofs.lemmas.Slice.Eq.{slice_eq-Decides}
use Rattle.greedy_rules.specs.declared.flows.Flow.{Flow}
use Rattle.greedy_rules.specs.SlotTable.{flows_from}

same_place : (a b : Option ℕ) → Decides (option_eq eqb a b) (a ≡ b)
same_place None None = (λ told. refl, λ same. refl)
same_place None (Some y) = (λ told. absurd (cc), λ same. absurd (cc))
same_place (Some x) None = (λ told. absurd (cc), λ same. absurd (cc))
same_place (Some x) (Some y) = (λ told. ap (λ (n : ℕ). Some n) ((Decides-eqb x y).0 told), λ same. (Decides-eqb x y).1 (same_Some x y same))

pub equal_rows : (xs ys : List (Option ℕ)) (one other : List Flow) (answer : Bool) → flows_from 0 xs ≡ one → flows_from 0 ys ≡ other → answer ≡ pointwise (option_eq eqb) xs ys → IsTrue answer → one ≡ other
equal_rows xs ys one other answer first second is told = sym first ∙ (ap (flows_from 0) ((slice_eq-Decides same_place xs ys answer is).0 told) ∙ second)
