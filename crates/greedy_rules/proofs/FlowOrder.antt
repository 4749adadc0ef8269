-- The order of flows, as tests and as `cmp`.
use Rattle.std.proofs.Common.{◌≡◌, ◌≤◌, ℕ, true, false, ◌==◌, nat_cmp, Equal, refl, ap, ◌∙◌, arith}
use Rattle.std.specs.declared.cmp.Ordering.{Ordering}
use Rattle.std.specs.Ordering.{ordering_then, ordering_index}
use Rattle.std.proofs.lemmas.Bool.{and_parts, and_from, eqb-true, eq-eqb}
use Rattle.std.proofs.lemmas.Bool.Decides.{nat_tests}
use Rattle.greedy_rules.specs.declared.flows.Flow.{Flow}
use Rattle.greedy_rules.specs.Flows.{same_flow, flow_below}

-- what the derived `cmp` answers
abbrev pub flow_cmp : Flow → Flow → Ordering
flow_cmp f g = ordering_then (nat_cmp f.src g.src) (nat_cmp f.dst g.dst)

pub same_flow-true : (f g : Flow) → same_flow f g ≡ true → f ≡ g
same_flow-true f g h =
    let p = and_parts (f.src == g.src) (f.dst == g.dst) h in
    let s : f.src ≡ g.src = eqb-true _ _ p.0 in
    let d : f.dst ≡ g.dst = eqb-true _ _ p.1 in
    ap (λ (n : ℕ). record { src = n; dst = f.dst }) s ∙ ap (λ (n : ℕ). record { src = g.src; dst = n }) d

pub same_flow-refl : (f : Flow) → same_flow f f ≡ true
same_flow-refl f = and_from _ _ (eq-eqb f.src f.src refl) (eq-eqb f.dst f.dst refl)

pub flow_below-not_same : (f g : Flow) → flow_below f g ≡ true → same_flow f g ≡ false
flow_below-not_same f g h = grind (arith, nat_tests)

pub flow_below-trans : (f g k : Flow) → flow_below f g ≡ true → flow_below g k ≡ true → flow_below f k ≡ true
flow_below-trans f g k h i = grind (arith, nat_tests)

pub same_flow-cmp : (f g : Flow) → flow_cmp f g ≡ Equal → same_flow f g ≡ true
same_flow-cmp f g h = grind (arith, nat_tests)

pub same_flow-not_cmp : (f g : Flow) → same_flow f g ≡ true → flow_cmp f g ≡ Equal
same_flow-not_cmp f g h = grind (arith, nat_tests)

pub rank_rises : (f g q : Flow) → flow_below f g ≡ true → ordering_index (flow_cmp f q) ≤ ordering_index (flow_cmp g q)
rank_rises f g q h = grind (arith, nat_tests)
