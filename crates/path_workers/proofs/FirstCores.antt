-- A slot with one packet between racks: it takes the first core, and no other source has one.
use Rattle.std.proofs.Common.{◌≡◌, ◌<◌, ◌≤◌, ◌+◌, ◌-◌, ℕ, suc, List, [], ◌∷◌, ◌++◌, length, replicate, ◌==◌, Option, Some, None, inl, inr, refl, sym, ap, ◌∙◌, subst, arith}
use Rattle.std.specs.Prelude.{IsSomeAnd, slice_get}
use Rattle.std.proofs.Math.Path.{fun_ext}
use Rattle.std.proofs.Math.Seq.{get_or-append_seam}
use Rattle.std.proofs.lemmas.Bool.{cases_order, cond-true, cond-false, eq-eqb, ne_eqb}
use Rattle.std.proofs.lemmas.List.{get_or_append_left, get_or-append-add, length-replicate}
use Rattle.std.proofs.lemmas.List.Elements.{All-nil, All-cons}
use Rattle.greedy_rules.specs.declared.flows.Flow.{Flow}
use Rattle.greedy_rules.specs.Schedule.{slot_in}
use Rattle.clos_topology.specs.declared.graph.Edge.{Edge}
use Rattle.clos_topology.specs.Network.{Network, endpoints_of}
use Rattle.clos_topology.specs.Limits.{IsNetwork}
use Rattle.clos_topology.specs.Links.{CoreOf}
use Rattle.clos_topology.specs.RackGraph.{rack_edges, IsEdgeOf, IsGraphOf}
use Rattle.edge_colouring.specs.Colouring.{IsColouring, EveryColouringMakesAMatchingClean}
use Rattle.edge_colouring.specs.Cores.{core_in}
use Rattle.edge_colouring.proofs.HoldsLemmas.{get_or-no_holders}
use Rattle.path_workers.specs.declared.painter.Painter.{Painter}
use Rattle.path_workers.specs.CoreRows.{first_core, first_row}
use Rattle.path_workers.specs.Painters.{AreColourable, HasRow, row_at}
use Rattle.path_workers.proofs.RowLemmas.{cores_from, row_coloured}

-- what its source has, and what another has
first_same : (source : ℕ) → first_core source source ≡ Some 0
first_same source = cond-true (source == source) (Some 0) None (eq-eqb source source refl)

first_other : (source other : ℕ) → (other ≡ source → ⊥) → first_core source other ≡ None
first_other source other apart = cond-false (other == source) (Some 0) None (ne_eqb other source apart)

-- the row of one source names the first core for it alone
row_names : (source after other : ℕ) → core_in (replicate source None ++ Some 0 ∷ replicate after None) other ≡ first_core source other
row_names source after other =
    let before : List (Option ℕ) = replicate source None in
    let behind : List (Option ℕ) = replicate after None in
    let len : length before ≡ source = length-replicate source None in
    elim (cases_order other source) [
      | inl same ↦
          ap (λ (n : ℕ). core_in (before ++ Some 0 ∷ behind) n) (same ∙ sym len)
          ∙ (get_or-append_seam before (Some 0) behind None ∙ (sym (first_same source) ∙ ap (first_core source) (sym same)))
      | inr (inl less) ↦
          get_or_append_left before (Some 0 ∷ behind) None other (omega (arith, less, len))
          ∙ (get_or-no_holders source other ∙ sym (first_other source other (λ same. omega (arith, same, less))))
      | inr (inr more) ↦
          let at : other ≡ length before + suc (other - source - 1) = omega (arith, more, len) in
          ap (λ (n : ℕ). core_in (before ++ Some 0 ∷ behind) n) at
          ∙ (get_or-append-add before (Some 0 ∷ behind) (suc (other - source - 1)) None
          ∙ (get_or-no_holders after (other - source - 1) ∙ sym (first_other source other (λ same. omega (arith, same, more)))))
    ]

pub first_row_names : (endpoints source : ℕ) → core_in (first_row endpoints source) ≡ first_core source
first_row_names endpoints source = fun_ext (row_names source (endpoints - 1 - source))

-- the one edge there is
only_edge : (edges : List Edge) (edge : Edge) → length edges ≡ 1 → slice_get edges 0 ≡ Some edge → edges ≡ edge ∷ []
only_edge [] edge one at = absurd (omega (arith, one))
only_edge (first ∷ []) edge one at = let same : first ≡ edge = cc in ap (λ (e : Edge). e ∷ []) same
only_edge (first ∷ second ∷ edges) edge one at = absurd (omega (arith, one))

only_colouring : (cores : ℕ) (edge : Edge) → 1 ≤ cores → IsColouring cores (edge ∷ []) (first_core edge.source)
only_colouring cores edge some =
    let Named : Edge → Type 0 = λ e. IsSomeAnd (first_core edge.source e.source) (λ core. core < cores) in
    record {
      named = All-cons Named edge [] (subst (λ (core : Option ℕ). IsSomeAnd core (λ c. c < cores)) (sym (first_same edge.source)) (omega (arith, some))) (All-nil Named);
      proper = λ i j d lt under. absurd (omega (arith, lt, under));
      others = λ source apart. first_other edge.source source (λ same. apart 0 edge (omega arith) (sym same));
    }

-- its place, which no row has
pub first_place : (net : Network) (room : ℕ) (slots : List (List Flow)) (painter : Painter) (slot : ℕ) (edges : List Edge) (edge : Edge) → room ≤ 1024 → EveryColouringMakesAMatchingClean → IsNetwork net → AreColourable net room slots → slot < length slots
    → edges ≡ rack_edges net.hosts (slot_in slots slot) → IsGraphOf net edges → length edges ≡ 1 → slice_get edges 0 ≡ Some edge → HasRow net room slots painter slot (1025 + edge.source)
first_place net room slots painter slot edges edge few clean network colourable below is graph one at =
    let flows : List Flow = slot_in slots slot in
    let named : CoreOf = first_core edge.source in
    let only : edges ≡ edge ∷ [] = only_edge edges edge one at in
    let own : IsEdgeOf net edge = (subst (IsGraphOf net) only graph).each 0 edge (omega arith) in
    let colouring : IsColouring net.cores edges named = subst (λ (es : List Edge). IsColouring net.cores es named) (sym only) (only_colouring net.cores edge network.some_core) in
    let place : row_at painter (1025 + edge.source) ≡ named =
    cores_from (endpoints_of painter.net) (1025 + edge.source) painter.rows.items (omega arith) ∙ ap first_core (omega arith) in
    record {
      same = λ lt. absurd (omega (arith, lt, few));
      within = omega (arith, own.source);
      cores = row_coloured net flows edges named (row_at painter (1025 + edge.source)) (colourable.matchings slot [] below) is colouring (clean net.hosts net.cores edges named colouring) (sym place);
    }
