-- What stands in a row of a slot table.
use Rattle.std.proofs.Common.{◌≡◌, ◌<◌, ◌+◌, ℕ, zero, suc, List, ◌∷◌, [], length, get_or, Option, Some, None, sym, ap, ◌∙◌, arith}
use Rattle.std.proofs.lemmas.Bool.{eq-eqb, ne_eqb}
use Rattle.greedy_rules.specs.declared.flows.Flow.{Flow}
use Rattle.greedy_rules.specs.SlotTable.{destination_of, flows_from}
use Rattle.greedy_rules.proofs.Facts.{this_source, other_source}
use Rattle.greedy_rules.proofs.RowLemmas.{destination-low}

cell_from : (k i src : ℕ) (cells : List (Option ℕ)) (d : Option ℕ) → src ≡ k + i → i < length cells → get_or cells i d ≡ destination_of (flows_from k cells) src
cell_from k i src [] d is below = absurd (omega (arith, below))
cell_from k zero src (None ∷ cells) d is below = sym (destination-low (k + 1) src cells (omega arith))
cell_from k (suc i) src (None ∷ cells) d is below = cell_from (k + 1) i src cells d (omega arith) (omega (arith, below))
cell_from k zero src (Some dst ∷ cells) d is below = sym (this_source src (record { src = k; dst = dst }) (flows_from (k + 1) cells) (eq-eqb k src (omega (arith, is))))
cell_from k (suc i) src (Some dst ∷ cells) d is below =
    cell_from (k + 1) i src cells d (omega arith) (omega (arith, below)) ∙ sym (other_source src (record { src = k; dst = dst }) (flows_from (k + 1) cells) (ne_eqb _ _ (λ same. omega arith)))

-- what stands at a source's place of a row is where it sends
pub cell_is : (at : ℕ) (cells : List (Option ℕ)) (slot : List Flow) (d : Option ℕ) → at < length cells → flows_from 0 cells ≡ slot → get_or cells at d ≡ destination_of slot at
cell_is at cells slot d below is = cell_from 0 at at cells d (omega arith) below ∙ ap (λ (flows : List Flow). destination_of flows at) is
