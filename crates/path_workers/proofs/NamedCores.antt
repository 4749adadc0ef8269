-- A core that is named is one of the net's.
use Rattle.std.proofs.Common.{◌≡◌, ◌≢◌, ◌<◌, ℕ, List, [], ◌∷◌, ◌==◌, Option, Some, None, All, ◌⊎◌, inl, inr, sym, subst}
use Rattle.std.specs.Prelude.{IfSome, MatchOption}
use Rattle.std.proofs.lemmas.Bool.{cases_Bool, cases_eq, cond-true, cond-false}
use Rattle.std.proofs.lemmas.List.Elements.{All-nil, All-cons, All-head, All-tail}
use Rattle.greedy_rules.specs.declared.flows.Flow.{Flow}
use Rattle.greedy_rules.specs.Limits.{rack_of}
use Rattle.clos_topology.specs.declared.graph.Edge.{Edge}
use Rattle.clos_topology.specs.Links.{CoreOf, HasItsCore}
use Rattle.clos_topology.specs.RackGraph.{rack_edges}
use Rattle.path_workers.specs.Coloured.{EveryNamedCoreIsBelow}

abbrev pub Below : ℕ → Option ℕ → Type 0
Below cores core = IfSome core (λ c. c < cores)

core_below : (hosts cores : ℕ) (flow : Flow) (core : Option ℕ) → MatchOption core (rack_of hosts flow.src ≡ rack_of hosts flow.dst) (λ c. (rack_of hosts flow.src ≢ rack_of hosts flow.dst) × (c < cores)) → Below cores core
core_below hosts cores flow None own = tt
core_below hosts cores flow (Some c) own = own.1

-- a source has such a core, or sends nothing to another rack
pub found : (hosts cores : ℕ) (named : CoreOf) (slot : List Flow) (source : ℕ) → All (HasItsCore hosts cores named) slot → All (λ (edge : Edge). edge.source ≢ source) (rack_edges hosts slot) ⊎ Below cores (named source)
found hosts cores named [] source own = inl (All-nil (λ (edge : Edge). edge.source ≢ source))
found hosts cores named (flow ∷ slot) source own =
    let Other : Edge → Type 0 = λ edge. edge.source ≢ source in
    let edge : Edge = record { source = flow.src; left = rack_of hosts flow.src; right = rack_of hosts flow.dst } in
    let within = rack_of hosts flow.src == rack_of hosts flow.dst in
    elim (found hosts cores named slot source (All-tail (HasItsCore hosts cores named) flow slot own)) [
      | inr below ↦ inr below
      | inl others ↦ elim (cases_eq flow.src source) [
        | inl same ↦ inr (subst (λ (n : ℕ). Below cores (named n)) same (core_below hosts cores flow (named flow.src) (All-head (HasItsCore hosts cores named) flow slot own)))
        | inr other ↦ elim (cases_Bool within) [
          | inl inside ↦ inl (subst (All Other) (sym (cond-true within (rack_edges hosts slot) (edge ∷ rack_edges hosts slot) inside)) others)
          | inr between ↦ inl (subst (All Other) (sym (cond-false within (rack_edges hosts slot) (edge ∷ rack_edges hosts slot) between)) (All-cons Other edge (rack_edges hosts slot) other others))
        ]
      ]
    ]

pub named_below : EveryNamedCoreIsBelow
named_below hosts cores slot named clean others source = elim (found hosts cores named slot source clean.named) [
  | inl none ↦ subst (Below cores) (sym (others source none)) tt
  | inr below ↦ below
]
