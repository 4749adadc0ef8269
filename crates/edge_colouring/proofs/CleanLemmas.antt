-- Why a colouring of a matching's edges makes the slot clean: two packets that shared a link would share a source, a
-- destination, or a core at a rack.
use Rattle.std.proofs.Common.{◌≡◌, ◌≢◌, ◌<◌, ℕ, List, [], ◌∷◌, ◌++◌, length, get_or, Bool, true, false, ◌==◌, cond, Option, Some, None, IsSomeAnd, MatchOption, All, AllPairs, refl, sym, ap, ◌∙◌, subst, arith, inl, inr}
use Rattle.std.specs.Option.{unwrap_or}
use Rattle.std.proofs.lemmas.Bool.{cases_Bool, cases_order, cond-true, cond-false, cond_both, eqb-true, eqb-false, both_ways}
use Rattle.std.proofs.lemmas.List.Elements.{All-nil, All-cons, All-head, All-tail, All-append, All-contains, All-same}
use Rattle.std.proofs.lemmas.List.{get_or_default}
use Rattle.greedy_rules.specs.declared.flows.Flow.{Flow}
use Rattle.greedy_rules.specs.Matching.{IsMatching}
use Rattle.list_facts.proofs.Pairs.{AllPairs-nil, AllPairs-cons, AllPairs-head, AllPairs-tail}
use Rattle.clos_topology.specs.declared.graph.Edge.{Edge}
use Rattle.greedy_rules.specs.Limits.{rack_of}
use Rattle.clos_topology.specs.Links.{Link, up, rise, fall, down, links, CoreOf, IsClean}
use Rattle.clos_topology.specs.RackGraph.{rack_edges}
use Rattle.edge_colouring.specs.Colouring.{AreApart, IsColouring, MakesClean}

-- a packet within a rack
abbrev stays : ℕ → Flow → Bool
stays hosts flow = rack_of hosts flow.src == rack_of hosts flow.dst

abbrev pub edge_of : ℕ → Flow → Edge
edge_of hosts flow = record { source = flow.src; left = rack_of hosts flow.src; right = rack_of hosts flow.dst }

-- what holds of the packets that leave their rack, by their edges
abbrev OnEdge : (Edge → Type 0) → ℕ → Flow → Type 0
OnEdge P hosts flow = stays hosts flow ≡ false → P (edge_of hosts flow)

edges_from_flows : (P : Edge → Type 0) (hosts : ℕ) (slot : List Flow) → All (OnEdge P hosts) slot → All P (rack_edges hosts slot)
edges_from_flows P hosts [] all = All-nil P
edges_from_flows P hosts (flow ∷ slot) all =
    let rest : All P (rack_edges hosts slot) = edges_from_flows P hosts slot (All-tail (OnEdge P hosts) flow slot all) in
    cond_both (stays hosts flow) (rack_edges hosts slot) (edge_of hosts flow ∷ rack_edges hosts slot) (All P) (λ same. rest)
    (λ differ. All-cons P (edge_of hosts flow) (rack_edges hosts slot) (All-head (OnEdge P hosts) flow slot all differ) rest)

flows_from_edges : (P : Edge → Type 0) (hosts : ℕ) (slot : List Flow) → All P (rack_edges hosts slot) → All (OnEdge P hosts) slot
flows_from_edges P hosts [] all = All-nil (OnEdge P hosts)
flows_from_edges P hosts (flow ∷ slot) all =
    elim (cases_Bool (stays hosts flow)) [
      | inl same ↦ All-cons (OnEdge P hosts) flow slot (λ differ. absurd (both_ways (stays hosts flow) differ same))
          (flows_from_edges P hosts slot (All-same P (rack_edges hosts slot) (rack_edges hosts (flow ∷ slot)) (sym (cond-true (stays hosts flow) (rack_edges hosts slot) (edge_of hosts flow ∷ rack_edges hosts slot) same)) all))
      | inr differ ↦
          let here : All P (edge_of hosts flow ∷ rack_edges hosts slot) =
          All-same P (edge_of hosts flow ∷ rack_edges hosts slot) (rack_edges hosts (flow ∷ slot)) (sym (cond-false (stays hosts flow) (rack_edges hosts slot) (edge_of hosts flow ∷ rack_edges hosts slot) differ)) all in
          All-cons (OnEdge P hosts) flow slot (λ _. All-head P (edge_of hosts flow) (rack_edges hosts slot) here)
          (flows_from_edges P hosts slot (All-tail P (edge_of hosts flow) (rack_edges hosts slot) here))
    ]

-- the edges of a matching have sources of their own
pub own_sources : (hosts : ℕ) (slot : List Flow) → IsMatching slot → AllPairs (λ e f. e.source ≢ f.source) (rack_edges hosts slot)
own_sources hosts [] matching = AllPairs-nil (λ (e : Edge) (f : Edge). e.source ≢ f.source)
own_sources hosts (flow ∷ slot) matching =
    let Other : Edge → Edge → Type 0 = λ e f. e.source ≢ f.source in
    let Apart : Flow → Flow → Type 0 = λ f g. (f.src ≢ g.src) × (f.dst ≢ g.dst) in
    let later : All (Apart flow) slot = AllPairs-head Apart flow slot matching in
    let rest : AllPairs Other (rack_edges hosts slot) = own_sources hosts slot (AllPairs-tail Apart flow slot matching) in
    cond_both (stays hosts flow) (rack_edges hosts slot) (edge_of hosts flow ∷ rack_edges hosts slot) (AllPairs Other) (λ same. rest)
    (λ differ. AllPairs-cons Other (edge_of hosts flow) (rack_edges hosts slot) (edges_from_flows (Other (edge_of hosts flow)) hosts slot (λ k d below _. (later k d below).0)) rest)

abbrev OnEdges : (Edge → Edge → Type 0) → ℕ → Flow → Flow → Type 0
OnEdges R hosts f g = stays hosts f ≡ false → stays hosts g ≡ false → R (edge_of hosts f) (edge_of hosts g)

pairs_from_edges : (R : Edge → Edge → Type 0) (hosts : ℕ) (slot : List Flow) → AllPairs R (rack_edges hosts slot) → AllPairs (OnEdges R hosts) slot
pairs_from_edges R hosts [] pairs = AllPairs-nil (OnEdges R hosts)
pairs_from_edges R hosts (flow ∷ slot) pairs =
    let P : List Edge → Type 0 = AllPairs R in
    elim (cases_Bool (stays hosts flow)) [
      | inl same ↦ AllPairs-cons (OnEdges R hosts) flow slot (λ k d below differ. absurd (both_ways (stays hosts flow) differ same))
          (pairs_from_edges R hosts slot (subst P (cond-true (stays hosts flow) (rack_edges hosts slot) (edge_of hosts flow ∷ rack_edges hosts slot) same) pairs))
      | inr differ ↦
          let here : AllPairs R (edge_of hosts flow ∷ rack_edges hosts slot) =
          subst P (cond-false (stays hosts flow) (rack_edges hosts slot) (edge_of hosts flow ∷ rack_edges hosts slot) differ) pairs in
          let head : All (OnEdge (R (edge_of hosts flow)) hosts) slot = flows_from_edges (R (edge_of hosts flow)) hosts slot (AllPairs-head R (edge_of hosts flow) (rack_edges hosts slot) here) in
          AllPairs-cons (OnEdges R hosts) flow slot (λ k d below _ other. head k d below other)
          (pairs_from_edges R hosts slot (AllPairs-tail R (edge_of hosts flow) (rack_edges hosts slot) here))
    ]

-- what a link says of a packet that uses it, and of its core
Uses : ℕ → Flow → ℕ → Link → Type 0
Uses hosts flow core (up e) = e ≡ flow.src
Uses hosts flow core (rise r c) = (stays hosts flow ≡ false) × (r ≡ rack_of hosts flow.src) × (c ≡ core)
Uses hosts flow core (fall c r) = (stays hosts flow ≡ false) × (r ≡ rack_of hosts flow.dst) × (c ≡ core)
Uses hosts flow core (down e) = e ≡ flow.dst

links_use : (hosts : ℕ) (flow : Flow) (core : ℕ) → All (Uses hosts flow core) (links hosts flow.src flow.dst core)
unfolding Uses
links_use hosts flow core =
    let P : Link → Type 0 = Uses hosts flow core in
    let last : All P (down flow.dst ∷ []) = All-cons P (down flow.dst) [] refl (All-nil P) in
    All-cons P (up flow.src) ((cond (stays hosts flow) [] (rise (rack_of hosts flow.src) core ∷ fall core (rack_of hosts flow.dst) ∷ [])) ++ down flow.dst ∷ []) refl
    (All-append P (cond (stays hosts flow) [] (rise (rack_of hosts flow.src) core ∷ fall core (rack_of hosts flow.dst) ∷ [])) (down flow.dst ∷ [])
    (cond_both (stays hosts flow) [] (rise (rack_of hosts flow.src) core ∷ fall core (rack_of hosts flow.dst) ∷ []) (All P)
    (λ same. All-nil P)
    (λ differ. All-cons P (rise (rack_of hosts flow.src) core) (fall core (rack_of hosts flow.dst) ∷ []) (differ, refl, refl)
    (All-cons P (fall core (rack_of hosts flow.dst)) [] (differ, refl, refl) (All-nil P))))
    last)

abbrev core_used : CoreOf → Flow → ℕ
core_used core_of flow = unwrap_or (core_of flow.src) 0

some_core : (colours : ℕ) (o : Option ℕ) → IsSomeAnd o (λ core. core < colours) → o ≡ Some (unwrap_or o 0)
some_core colours None named = absurd named
some_core colours (Some core) named = refl

-- packets with different sources and destinations, and different cores where a rack meets a rack, share no link
share_none : (hosts colours : ℕ) (core_of : CoreOf) (f g : Flow) → (f.src ≢ g.src) × (f.dst ≢ g.dst)
    → OnEdge (λ edge. IsSomeAnd (core_of edge.source) (λ core. core < colours)) hosts f → OnEdge (λ edge. IsSomeAnd (core_of edge.source) (λ core. core < colours)) hosts g
    → OnEdges (AreApart core_of) hosts f g → (link : Link) → Uses hosts f (core_used core_of f) link → Uses hosts g (core_used core_of g) link → ⊥
unfolding Uses
share_none hosts colours core_of f g ends f_named g_named apart (up e) f_uses g_uses = ends.0 (sym f_uses ∙ g_uses)
share_none hosts colours core_of f g ends f_named g_named apart (down e) f_uses g_uses = ends.1 (sym f_uses ∙ g_uses)
share_none hosts colours core_of f g ends f_named g_named apart (rise r c) f_uses g_uses =
    let f_core : core_of f.src ≡ Some (core_used core_of f) = some_core colours (core_of f.src) (f_named f_uses.0) in
    let g_core : core_of g.src ≡ Some (core_used core_of g) = some_core colours (core_of g.src) (g_named g_uses.0) in
    let same : core_of f.src ≡ core_of g.src = f_core ∙ (ap (λ (k : ℕ). Some k) (sym f_uses.2 ∙ g_uses.2) ∙ sym g_core) in
    (apart f_uses.0 g_uses.0 same).0 (sym f_uses.1 ∙ g_uses.1)
share_none hosts colours core_of f g ends f_named g_named apart (fall c r) f_uses g_uses =
    let f_core : core_of f.src ≡ Some (core_used core_of f) = some_core colours (core_of f.src) (f_named f_uses.0) in
    let g_core : core_of g.src ≡ Some (core_used core_of g) = some_core colours (core_of g.src) (g_named g_uses.0) in
    let same : core_of f.src ≡ core_of g.src = f_core ∙ (ap (λ (k : ℕ). Some k) (sym f_uses.2 ∙ g_uses.2) ∙ sym g_core) in
    (apart f_uses.0 g_uses.0 same).1 (sym f_uses.1 ∙ g_uses.1)

its_core : (hosts colours : ℕ) (flow : Flow) (o : Option ℕ) → stays hosts flow ≡ false → IsSomeAnd o (λ core. core < colours)
    → MatchOption o (rack_of hosts flow.src ≡ rack_of hosts flow.dst) (λ core. (rack_of hosts flow.src ≢ rack_of hosts flow.dst) × (core < colours))
its_core hosts colours flow None differ named = absurd named
its_core hosts colours flow (Some core) differ named = (eqb-false _ _ differ, named)

-- a packet within its rack has no edge with its source
no_edge : (hosts : ℕ) (slot : List Flow) (k : ℕ) (d : Flow) → IsMatching slot → k < length slot → stays hosts (get_or slot k d) ≡ true → All (λ edge. edge.source ≢ (get_or slot k d).src) (rack_edges hosts slot)
no_edge hosts slot k d matching below same =
    let source : ℕ = (get_or slot k d).src in
    edges_from_flows (λ edge. edge.source ≢ source) hosts slot (λ j e within differ.
    let there : get_or slot j e ≡ get_or slot j d = get_or_default slot j e d within in
    elim (cases_order j k) [
      | inl here ↦ λ _. both_ways (stays hosts (get_or slot k d)) (ap (stays hosts) (ap (λ (i : ℕ). get_or slot i d) (sym here) ∙ sym there) ∙ differ) same
      | inr (inl before) ↦ λ meet. (matching j k d before below).0 (ap (λ (f : Flow). f.src) (sym there) ∙ meet)
      | inr (inr after) ↦ λ meet. (matching k j d after within).0 (sym meet ∙ ap (λ (f : Flow). f.src) there)
    ])

clean : (hosts colours : ℕ) (slot : List Flow) (core_of : CoreOf) → IsMatching slot → IsColouring colours (rack_edges hosts slot) core_of → IsClean hosts colours slot core_of
clean hosts colours slot core_of matching colouring =
    let named : All (OnEdge (λ edge. IsSomeAnd (core_of edge.source) (λ core. core < colours)) hosts) slot =
    flows_from_edges (λ edge. IsSomeAnd (core_of edge.source) (λ core. core < colours)) hosts slot colouring.named in
    let apart : AllPairs (OnEdges (AreApart core_of) hosts) slot = pairs_from_edges (AreApart core_of) hosts slot colouring.proper in
    record {
      named = λ k d below.
          let flow : Flow = get_or slot k d in
          let P : Option ℕ → Type 0 = λ o. MatchOption o (rack_of hosts flow.src ≡ rack_of hosts flow.dst) (λ core. (rack_of hosts flow.src ≢ rack_of hosts flow.dst) × (core < colours)) in
          elim (cases_Bool (stays hosts flow)) [
            | inl same ↦ subst P (sym (colouring.others flow.src (no_edge hosts slot k d matching below same))) (eqb-true _ _ same)
            | inr differ ↦ its_core hosts colours flow (core_of flow.src) differ (named k d below differ)
          ];
      apart = λ i j d lt below link f_has g_has.
          let f : Flow = get_or slot i d in
          let g : Flow = get_or slot j d in
          share_none hosts colours core_of f g (matching i j d lt below) (named i d (omega arith)) (named j d below) (apart i j d lt below) link
          (All-contains (Uses hosts f (core_used core_of f)) (links hosts f.src f.dst (core_used core_of f)) link (links_use hosts f (core_used core_of f)) f_has)
          (All-contains (Uses hosts g (core_used core_of g)) (links hosts g.src g.dst (core_used core_of g)) link (links_use hosts g (core_used core_of g)) g_has);
    }

pub makes_clean : (hosts colours : ℕ) (edges : List Edge) (core_of : CoreOf) → IsColouring colours edges core_of → MakesClean hosts colours edges core_of
makes_clean hosts colours edges core_of colouring slot matching is =
    clean hosts colours slot core_of matching (subst (λ (es : List Edge). IsColouring colours es core_of) is colouring)
