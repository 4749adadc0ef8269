-- From the cores of the edges to the cores of their sources.
use Rattle.std.proofs.Common.{◌≡◌, ◌≢◌, ◌<◌, ◌≤◌, ◌+◌, ◌*◌, ℕ, List, [], ◌∷◌, length, get_or, set, replicate, Bool, true, false, Option, Some, None, IsSomeAnd, All, AllPairs, slice_get, refl, sym, ap, ◌∙◌, subst, arith, inl, inr}
use Rattle.std.proofs.lemmas.Bool.{cases_eq}
use Rattle.std.proofs.lemmas.List.{get_or-set_same, get_or-set_other, get_or-map}
use Rattle.std.proofs.lemmas.List.Elements.{All-map, All-head, All-tail}
use Rattle.list_facts.proofs.Pairs.{AllPairs-head, AllPairs-tail}
use Rattle.std.proofs.lemmas.Option.{get_or_from_slice_get}
use Rattle.clos_topology.specs.declared.graph.Edge.{Edge}
use Rattle.clos_topology.specs.Network.{Network, endpoints_of}
use Rattle.clos_topology.specs.Links.{CoreOf}
use Rattle.clos_topology.specs.RackGraph.{IsGraphOf, IsEdgeOf}
use Rattle.edge_colouring.specs.Degrees.{rack_on, racks_on, HasRacksBelow}
use Rattle.edge_colouring.specs.Colouring.{IsColouring}
use Rattle.edge_colouring.specs.Cores.{core_in}
use Rattle.edge_colouring.specs.Holders.{IsRackOf}
use Rattle.edge_colouring.specs.Painted.{AreNamed, IsPainted, HasRacks, AreNamedBySource}
use Rattle.edge_colouring.proofs.HoldsLemmas.{rack_at, get_or-no_holders}
use Rattle.edge_colouring.proofs.TurnLemmas.{HadOneEach, HadOneEach-from_held}
use Rattle.edge_colouring.proofs.DegreeLemmas.{side_below}

-- the first edges' sources have the edges' cores, and no other source has one
pub record AreNamedUpTo (edges : List Edge) (colours cores : List (Option ℕ)) (n : ℕ) : Type 0 where
  pub each : (at : ℕ) (edge : Edge) → at < n → core_in cores (get_or edges at edge).source ≡ core_in colours at
  pub others : (source : ℕ) → ((at : ℕ) (edge : Edge) → at < n → (get_or edges at edge).source ≢ source) → core_in cores source ≡ None

pub named_none : (edges : List Edge) (colours : List (Option ℕ)) (n : ℕ) → AreNamedUpTo edges colours (replicate n None) 0
named_none edges colours n = record {
  each = λ at edge lt. absurd (omega arith);
  others = λ source apart. get_or-no_holders n source;
}

pub named_more : (edges : List Edge) (colours cores : List (Option ℕ)) (n source left right : ℕ) (colour : Option ℕ) → AllPairs (λ e f. e.source < f.source) edges → n < length edges
    → slice_get edges n ≡ Some (record { source = source; left = left; right = right }) → All (λ edge. edge.source < length cores) edges → colour ≡ core_in colours n
    → AreNamedUpTo edges colours cores n → AreNamedUpTo edges colours (set cores source colour) (n + 1)
named_more edges colours cores n source left right colour rising below is sources colour_is old =
    let at_n : (edge : Edge) → (get_or edges n edge).source ≡ source = λ edge. ap (λ (e : Edge). e.source) (get_or_from_slice_get edges n (record { source = source; left = left; right = right }) edge is) in
    let in_cores : source < length cores = let bound : (get_or edges n (record { source = source; left = left; right = right })).source < length cores = sources n (record { source = source; left = left; right = right }) below in omega (arith, at_n (record { source = source; left = left; right = right })) in
    record {
      each = λ at edge lt. elim (cases_eq at n) [
        | inl same ↦
            let source_is : (get_or edges at edge).source ≡ source = ap (λ (k : ℕ). (get_or edges k edge).source) same ∙ at_n edge in
            ap (core_in (set cores source colour)) source_is ∙ (get_or-set_same cores source colour None in_cores ∙ (colour_is ∙ ap (core_in colours) (sym same)))
        | inr other ↦
            let apart : (get_or edges at edge).source ≢ source = λ e. let lower : (get_or edges at edge).source < (get_or edges n edge).source = rising at n edge (omega arith) below in omega (arith, at_n edge) in
            get_or-set_other cores source (get_or edges at edge).source colour None apart ∙ old.each at edge (omega arith)
      ];
      others = λ s apart.
          let some : Edge = record { source = source; left = left; right = right } in
          let other : s ≢ source = λ e. apart n some (omega arith) (at_n some ∙ sym e) in
          get_or-set_other cores source s colour None other ∙ old.others s (λ at edge lt. apart at edge (omega arith));
    }

pub named_all : (edges : List Edge) (colours cores : List (Option ℕ)) (n : ℕ) → n ≡ length edges → AreNamedUpTo edges colours cores n → AreNamedBySource edges colours cores
named_all edges colours cores n all are = record {
  each = λ at edge lt. are.each at edge (omega arith);
  others = λ source apart. are.others source (λ at edge lt. apart at edge (omega arith));
}

-- an edge list of a network on the two sides of its table
pub graph_racks : (net : Network) (edges : List Edge) → IsGraphOf net edges → HasRacksBelow net.racks edges
graph_racks net edges is = λ k d below. let edge : IsEdgeOf net (get_or edges k d) = is.each k d below in (edge.left, edge.right)

pub has_racks : (left : Bool) (racks : ℕ) (edges : List Edge) (H : List (Option ℕ)) → HasRacksBelow racks edges → length H ≡ racks * 64 → HasRacks left edges H
has_racks left racks edges H below size =
    All-map (IsRackOf H) (rack_on left) edges (λ k d within. let rack : rack_on left (get_or edges k d) < racks = side_below left racks edges below k d within in omega arith)

named_core : (most : ℕ) (o : Option ℕ) → IsSomeAnd o (λ core. core < most) → (x : ℕ) × (o ≡ Some x) × (x < most)
named_core most None named = absurd named
named_core most (Some x) named = (x, refl, named)

-- two places whose edges have one core have different racks on a side
apart_on : (left : Bool) (edges : List Edge) (colours : List (Option ℕ)) (i j core : ℕ) (d : Edge) → HadOneEach (racks_on left edges) colours core → i < j → j < length edges
    → core_in colours i ≡ Some core → core_in colours j ≡ Some core → rack_on left (get_or edges i d) ≢ rack_on left (get_or edges j d)
apart_on left edges colours i j core d one lt below i_has j_has racks =
    let rack_i : rack_at (racks_on left edges) i ≡ rack_on left (get_or edges i d) = get_or-map (rack_on left) edges i d 0 (omega arith) in
    let rack_j : rack_at (racks_on left edges) j ≡ rack_on left (get_or edges j d) = get_or-map (rack_on left) edges j d 0 below in
    let same : i ≡ j = one i j (rack_i ∙ (racks ∙ sym rack_j)) i_has j_has in
    omega arith

-- cores of edges, no two of a rack on a side the same, are a colouring once their sources have them
pub colouring_by_source : (edges : List Edge) (most : ℕ) (colours : List (Option ℕ)) (core_of : CoreOf) → AreNamed most colours → length colours ≡ length edges
    → ((core : ℕ) → core < most → HadOneEach (racks_on true edges) colours core) → ((core : ℕ) → core < most → HadOneEach (racks_on false edges) colours core)
    → ((at : ℕ) (edge : Edge) → at < length edges → core_of (get_or edges at edge).source ≡ core_in colours at) → ((source : ℕ) → All (λ edge. edge.source ≢ source) edges → core_of source ≡ None)
    → IsColouring most edges core_of
colouring_by_source edges most colours core_of named count left_one right_one each others = record {
  named = λ k d below. let P : Option ℕ → Type 0 = λ o. IsSomeAnd o (λ core. core < most) in subst P (sym (each k d below)) (named k None (omega arith));
  proper = λ i j d lt below same.
      let meet : core_in colours i ≡ core_in colours j = sym (each i d (omega arith)) ∙ (same ∙ each j d below) in
      let core = named_core most (core_in colours i) (named i None (omega arith)) in (
        apart_on true edges colours i j core.0 d (left_one core.0 core.2) lt below core.1 (sym meet ∙ core.1),
        apart_on false edges colours i j core.0 d (right_one core.0 core.2) lt below core.1 (sym meet ∙ core.1),
      );
  others = others;
}

-- who holds what makes the named cores a colouring
pub colouring_of : (edges : List Edge) (most : ℕ) (colours L R cores : List (Option ℕ)) → IsPainted edges most colours L R → most ≤ 64 → length colours ≡ length edges → AreNamedBySource edges colours cores
    → IsColouring most edges (core_in cores)
colouring_of edges most colours L R cores painted small count named =
    colouring_by_source edges most colours (core_in cores) painted.named count
    (λ core below. HadOneEach-from_held (racks_on true edges) colours L core painted.left_side (omega arith))
    (λ core below. HadOneEach-from_held (racks_on false edges) colours R core painted.right_side (omega arith))
    named.each named.others

-- edges with different sources are no more than the sources
rising_fits : (edges : List Edge) (low n : ℕ) → AllPairs (λ e f. e.source < f.source) edges → All (λ edge. (low ≤ edge.source) × (edge.source < n)) edges → low ≤ n → length edges + low ≤ n
rising_fits [] low n rising within below = omega arith
rising_fits (e ∷ edges) low n rising within below =
    let here : (low ≤ e.source) × (e.source < n) = All-head (λ edge. (low ≤ edge.source) × (edge.source < n)) e edges within in
    let later : All (λ f. e.source < f.source) edges = AllPairs-head (λ e f. e.source < f.source) e edges rising in
    let inside : All (λ edge. (low ≤ edge.source) × (edge.source < n)) edges = All-tail (λ edge. (low ≤ edge.source) × (edge.source < n)) e edges within in
    let rest : length edges + (e.source + 1) ≤ n =
    rising_fits edges (e.source + 1) n (AllPairs-tail (λ e f. e.source < f.source) e edges rising)
    (λ k d lt. (omega (arith, later k d lt), (inside k d lt).1)) (omega arith) in
    omega arith

pub graph_fits : (net : Network) (edges : List Edge) → IsGraphOf net edges → length edges ≤ endpoints_of net
graph_fits net edges is =
    let fits : length edges + 0 ≤ endpoints_of net = rising_fits edges 0 (endpoints_of net) is.rising (λ k d below. let edge : IsEdgeOf net (get_or edges k d) = is.each k d below in (omega arith, edge.source)) (omega arith) in
    omega arith

pub graph_sources : (net : Network) (edges : List Edge) (n : ℕ) → IsGraphOf net edges → n ≡ endpoints_of net → All (λ edge. edge.source < n) edges
graph_sources net edges n is same = λ k d below. let edge : IsEdgeOf net (get_or edges k d) = is.each k d below in omega (arith, edge.source)
