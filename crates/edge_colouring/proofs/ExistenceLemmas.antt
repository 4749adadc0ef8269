-- König's theorem: the edges take their cores one after the other, along alternating paths.
use Rattle.std.proofs.Common.{◌≡◌, ◌≢◌, ◌<◌, ◌≤◌, ◌+◌, ◌⊎◌, ◌==◌, ℕ, zero, suc, List, [], ◌∷◌, ◌++◌, length, get_or, set, Bool, true, false, cond, Option, Some, None, IsSomeAnd, All, AllPairs, refl, sym, ◌∙◌, subst, arith, inl, inr}
use Rattle.std.proofs.lemmas.Bool.{cases_eq, eq-eqb, ne_eqb, cond-true, cond-false}
use Rattle.std.proofs.lemmas.List.{get_or_push, set_at, length-map, length_push}
use Rattle.std.proofs.lemmas.List.Elements.{All-nil, All-push, All-head, All-tail}
use Rattle.list_facts.proofs.Pairs.{AllPairs-head, AllPairs-tail}
use Rattle.greedy_rules.specs.declared.flows.Flow.{Flow}
use Rattle.greedy_rules.specs.Matching.{IsMatching}
use Rattle.clos_topology.specs.declared.graph.Edge.{Edge}
use Rattle.clos_topology.specs.Links.{CoreOf, IsClean}
use Rattle.clos_topology.specs.RackGraph.{rack_edges}
use Rattle.edge_colouring.specs.Degrees.{rack_on, racks_on, degree_on, HasDegreesWithin}
use Rattle.edge_colouring.specs.Cores.{core_in}
use Rattle.edge_colouring.specs.Colouring.{EveryGraphHasAColouring}
use Rattle.edge_colouring.specs.Turns.{AreTurned}
use Rattle.edge_colouring.specs.Painted.{AreNamed}
use Rattle.edge_colouring.proofs.HoldsLemmas.{rack_at, IsTakenAt, core_in_push}
use Rattle.edge_colouring.proofs.TurnLemmas.{HadOneEach-from_set, unmoved}
use Rattle.edge_colouring.proofs.PaintLemmas.{taken_below, all_taken, taken_and_one, named_after}
use Rattle.edge_colouring.proofs.CleanLemmas.{own_sources, makes_clean}
use Rattle.edge_colouring.proofs.TableLemmas.{colouring_by_source}
use Rattle.edge_colouring.proofs.PathLemmas.{IsFreeAt, IsProper, taken_or_free, takes_free, IsWalked, walk}

-- a core below m that is free at a rack, or an edge there for each
free_or_taken : (racks : List ℕ) (c : List (Option ℕ)) (rack m : ℕ) → ((core : ℕ) × (core < m) × IsFreeAt racks c rack core) ⊎ ((core : ℕ) → core < m → IsTakenAt racks c rack core)
free_or_taken racks c rack zero = inr (λ core lt. absurd (omega arith))
free_or_taken racks c rack (suc m) =
    elim (free_or_taken racks c rack m) [
      | inl free ↦ inl (free.0, omega (arith, free.1), free.2)
      | inr taken ↦ elim (taken_or_free racks c rack m) [
        | inr free ↦ inl (m, omega arith, free)
        | inl last ↦
            let P : ℕ → Type 0 = λ core. IsTakenAt racks c rack core in
            inr (λ core lt. elim (cases_eq core m) [ inl same ↦ subst P (sym same) last | inr other ↦ taken core (omega arith) ])
      ]
    ]

-- the next edge's rack has one, since fewer edges than its degree have their cores
some_free : (left : Bool) (edges : List Edge) (most : ℕ) (c : List (Option ℕ)) → HasDegreesWithin most edges → length c < length edges
    → (core : ℕ) × (core < most) × IsFreeAt (racks_on left edges) c (rack_at (racks_on left edges) (length c)) core
some_free left edges most c degrees short =
    let racks : List ℕ = racks_on left edges in
    let rack : ℕ = rack_at racks (length c) in
    elim (free_or_taken racks c rack most) [
      | inl free ↦ free
      | inr taken ↦
          let many : most ≤ taken_below most rack racks c = all_taken racks c rack most (omega (arith, length-map edges (rack_on left))) taken in
          let few : taken_below most rack racks c + 1 ≤ degree_on left rack edges = taken_and_one left most rack edges c short refl in
          absurd (omega (arith, degrees left rack))
    ]

-- the next edge takes a core that is free at its rack
takes_next : (racks : List ℕ) (c : List (Option ℕ)) (y : ℕ) → IsProper racks c → IsFreeAt racks c (rack_at racks (length c)) y → IsProper racks (c ++ Some y ∷ [])
takes_next racks c y proper free =
    let none : Option ℕ = None in
    let waits : List (Option ℕ) = c ++ none ∷ [] in
    subst (IsProper racks) (set_at c none [] (Some y) (length c) refl)
    (takes_free racks waits (length c) y (omega (arith, length_push c none))
    (λ core k l same k_has l_has. proper core k l same (sym (core_in_push c k) ∙ k_has) (sym (core_in_push c l) ∙ l_has))
    (λ at is has. free at is (sym (core_in_push c at) ∙ has)))

-- the first edges have cores below this number, no two of a rack on a side the same
record AreColoured (edges : List Edge) (most : ℕ) (c : List (Option ℕ)) : Type 0 where
  named : AreNamed most c
  left_side : IsProper (racks_on true edges) c
  right_side : IsProper (racks_on false edges) c

-- one core that is free at both racks of the next edge
takes_one : (edges : List Edge) (most : ℕ) (c : List (Option ℕ)) (core : ℕ) → AreColoured edges most c → core < most
    → IsFreeAt (racks_on true edges) c (rack_at (racks_on true edges) (length c)) core → IsFreeAt (racks_on false edges) c (rack_at (racks_on false edges) (length c)) core
    → AreColoured edges most (c ++ Some core ∷ [])
takes_one edges most c core coloured below left_free right_free = record {
  named = All-push (λ o. IsSomeAnd o (λ k. k < most)) c (Some core) coloured.named below;
  left_side = takes_next (racks_on true edges) c core coloured.left_side left_free;
  right_side = takes_next (racks_on false edges) c core coloured.right_side right_free;
}

-- one core that is free at its left rack and one at its right rack: the walk begins at the right rack
takes_two : (edges : List Edge) (most : ℕ) (c : List (Option ℕ)) (a b : ℕ) → AreColoured edges most c → a < most → b < most → a ≢ b
    → IsFreeAt (racks_on true edges) c (rack_at (racks_on true edges) (length c)) a → IsFreeAt (racks_on false edges) c (rack_at (racks_on false edges) (length c)) b
    → (c' : List (Option ℕ)) × (length c' ≡ length c + 1) × AreColoured edges most c'
takes_two edges most c a b coloured a_below b_below differ left_free right_free =
    let lefts : List ℕ = racks_on true edges in
    let rights : List ℕ = racks_on false edges in
    let n : ℕ = length c in
    let c0 : List (Option ℕ) = c ++ Some b ∷ [] in
    let has_b : core_in c0 n ≡ Some b = get_or_push c (Some b) None n refl in
    let right_proper : IsProper rights c0 = takes_next rights c b coloured.right_side right_free in
    let left_proper : IsProper lefts (set c0 n (Some a)) =
    subst (IsProper lefts) (sym (set_at c (Some b) [] (Some a) n refl)) (takes_next lefts c a coloured.left_side left_free) in
    let begins : IsWalked rights lefts b a c0 c0 n = record {
      far_side = right_proper;
      near_side = left_proper;
      now = has_b;
      before = has_b;
      turned = record { count = refl; each = λ at. inl refl };
    } in
    let end = walk (unmoved c0 c0) rights lefts b a c0 c0 n begins (λ e. differ (sym e)) (right_proper b) (HadOneEach-from_set lefts c0 n a b (left_proper a) differ has_b) (omega arith) in
    let turned : AreTurned b a c0 end.0 = end.1.turned in (
      end.0,
      turned.count ∙ length_push c (Some b),
      record {
        named = named_after most b a c0 end.0 b_below a_below turned (All-push (λ o. IsSomeAnd o (λ k. k < most)) c (Some b) coloured.named b_below);
        left_side = end.1.near_side;
        right_side = end.1.far_side;
      },
    )

one_more : (edges : List Edge) (most : ℕ) (c : List (Option ℕ)) → HasDegreesWithin most edges → length c < length edges → AreColoured edges most c
    → (c' : List (Option ℕ)) × (length c' ≡ length c + 1) × AreColoured edges most c'
one_more edges most c degrees short coloured =
    let a = some_free true edges most c degrees short in
    let b = some_free false edges most c degrees short in
    let P : ℕ → Type 0 = λ core. IsFreeAt (racks_on false edges) c (rack_at (racks_on false edges) (length c)) core in
    elim (cases_eq a.0 b.0) [
      | inl same ↦ (c ++ Some a.0 ∷ [], length_push c (Some a.0), takes_one edges most c a.0 coloured a.1 a.2 (subst P (sym same) b.2))
      | inr differ ↦ takes_two edges most c a.0 b.0 coloured a.1 b.1 differ a.2 b.2
    ]

all_coloured : (edges : List Edge) (most n : ℕ) → HasDegreesWithin most edges → n ≤ length edges → (c : List (Option ℕ)) × (length c ≡ n) × AreColoured edges most c
all_coloured edges most zero degrees below = (
  [],
  refl,
  record {
    named = All-nil (λ o. IsSomeAnd o (λ core. core < most));
    left_side = λ core k l same k_has l_has. cc;
    right_side = λ core k l same k_has l_has. cc;
  },
)
all_coloured edges most (suc n) degrees below =
    let before = all_coloured edges most n degrees (omega arith) in
    let after = one_more edges most before.0 degrees (omega (arith, before.1)) before.2 in
    (after.0, omega (arith, after.1, before.1), after.2)

-- the core of a source is that of its edge
core_from : List Edge → List (Option ℕ) → CoreOf
core_from [] c source = None
core_from (edge ∷ edges) [] source = None
core_from (edge ∷ edges) (o ∷ c) source = cond (edge.source == source) o (core_from edges c source)

core_of_edge : (edges : List Edge) (c : List (Option ℕ)) (at : ℕ) (d : Edge) → AllPairs (λ e f. e.source ≢ f.source) edges → length c ≡ length edges → at < length edges
    → core_from edges c (get_or edges at d).source ≡ core_in c at
unfolding core_from
core_of_edge [] c at d own count below = absurd (omega arith)
core_of_edge (edge ∷ edges) [] at d own count below = absurd (omega arith)
core_of_edge (edge ∷ edges) (o ∷ c) zero d own count below = cond-true (edge.source == edge.source) o (core_from edges c edge.source) (eq-eqb edge.source edge.source refl)
core_of_edge (edge ∷ edges) (o ∷ c) (suc at) d own count below =
    let source : ℕ = (get_or edges at d).source in
    let within : at < length edges = omega arith in
    let differ : edge.source ≢ source = AllPairs-head (λ e f. e.source ≢ f.source) edge edges own at d within in
    cond-false (edge.source == source) o (core_from edges c source) (ne_eqb edge.source source differ)
    ∙ core_of_edge edges c at d (AllPairs-tail (λ e f. e.source ≢ f.source) edge edges own) (omega arith) within

core_of_none : (edges : List Edge) (c : List (Option ℕ)) (source : ℕ) → All (λ edge. edge.source ≢ source) edges → core_from edges c source ≡ None
unfolding core_from
core_of_none [] c source others = refl
core_of_none (edge ∷ edges) [] source others = refl
core_of_none (edge ∷ edges) (o ∷ c) source others =
    cond-false (edge.source == source) o (core_from edges c source) (ne_eqb edge.source source (All-head (λ e. e.source ≢ source) edge edges others))
    ∙ core_of_none edges c source (All-tail (λ e. e.source ≢ source) edge edges others)

pub has_a_colouring : EveryGraphHasAColouring
has_a_colouring colours edges own degrees =
    let coloured = all_coloured edges colours (length edges) degrees (omega arith) in
    let c : List (Option ℕ) = coloured.0 in
    let is : AreColoured edges colours c = coloured.2 in (
      core_from edges c,
      colouring_by_source edges colours c (core_from edges c) is.named coloured.1 (λ core _. is.left_side core) (λ core _. is.right_side core)
          (λ at d. core_of_edge edges c at d own coloured.1) (core_of_none edges c),
    )

-- so a matching whose racks send and receive at most so many packets between racks has cores with which it is clean
pub has_clean_cores : (hosts colours : ℕ) (slot : List Flow) → IsMatching slot → HasDegreesWithin colours (rack_edges hosts slot) → (core_of : CoreOf) × IsClean hosts colours slot core_of
has_clean_cores hosts colours slot matching degrees =
    let edges : List Edge = rack_edges hosts slot in
    let colouring = has_a_colouring colours edges (own_sources hosts slot matching) degrees in
    (colouring.0, makes_clean hosts colours edges colouring.0 colouring.1 slot matching refl)
