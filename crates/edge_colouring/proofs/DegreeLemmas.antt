-- Degrees, counted edge by edge.
use Rattle.std.proofs.Common.{◌≡◌, ◌<◌, ◌≤◌, ◌+◌, ℕ, List, length, get_or, set, take, Bool, true, false, ◌==◌, cond, Option, Some, None, MatchOption, All, [], ◌∷◌, refl, sym, ap, ◌∙◌, subst, arith, inl, inr}
use Rattle.std.proofs.lemmas.Bool.{cases_eq, cases_lt, cond-true, cond-false, eq-eqb, ne_eqb}
use Rattle.std.proofs.lemmas.List.{get_or-map, get_or-set_same, get_or-set_other, length-set}
use Rattle.std.proofs.lemmas.List.Sums.{sum_by_more, sum_by-cons}
use Rattle.std.proofs.lemmas.List.Elements.{All-head, All-tail, All-map}
use Rattle.clos_topology.specs.declared.graph.Edge.{Edge}
use Rattle.edge_colouring.specs.Degrees.{rack_on, racks_on, degree_on, HasDegreesWithin, HasRacksBelow, IsFirstExcess, IsFirstOf}
use Rattle.edge_colouring.specs.declared.degrees.Degree.{Degree}
use Rattle.edge_colouring.proofs.HoldsLemmas.{rack_at}

abbrev pub some_edge : Edge
some_edge = record { source = 0; left = 0; right = 0 }

-- an edge's rack, of the racks in their order
pub rack_at-edges : (left : Bool) (edges : List Edge) (at : ℕ) → at < length edges → rack_at (racks_on left edges) at ≡ rack_on left (get_or edges at some_edge)
rack_at-edges left edges at below = get_or-map (rack_on left) edges at some_edge 0 below

pub degree_more : (left : Bool) (edges : List Edge) (at rack : ℕ) → at < length edges
    → degree_on left rack (take (at + 1) edges) ≡ degree_on left rack (take at edges) + cond (rack_at (racks_on left edges) at == rack) 1 0
degree_more left edges at rack below =
    sum_by_more (λ edge. cond (rack_on left edge == rack) 1 0) edges at some_edge below
    ∙ ap (λ (r : ℕ). degree_on left rack (take at edges) + cond (r == rack) 1 0) (sym (rack_at-edges left edges at below))

pub degree_counted : (left : Bool) (edges : List Edge) (degrees : List ℕ) (at r : ℕ) → at < length edges → r ≡ rack_at (racks_on left edges) at → r < length degrees
    → ((rack : ℕ) → rack < length degrees → get_or degrees rack 0 ≡ degree_on left rack (take at edges))
    → (rack : ℕ) → rack < length (set degrees r (get_or degrees r 0 + 1)) → get_or (set degrees r (get_or degrees r 0 + 1)) rack 0 ≡ degree_on left rack (take (at + 1) edges)
degree_counted left edges degrees at r below r_is in_range so_far rack within =
    let more = degree_more left edges at rack below in
    let count : ℕ = degree_on left rack (take at edges) in
    let here : rack < length degrees = omega (arith, length-set degrees r (get_or degrees r 0 + 1)) in
    elim (cases_eq rack r) [
      | inl same ↦
          let one : (rack_at (racks_on left edges) at == rack) ≡ true = eq-eqb _ _ (sym (same ∙ r_is)) in
          let was : get_or degrees r 0 ≡ count = ap (λ (k : ℕ). get_or degrees k 0) (sym same) ∙ so_far rack here in
          ap (λ (k : ℕ). get_or (set degrees r (get_or degrees r 0 + 1)) k 0) same
          ∙ (get_or-set_same degrees r (get_or degrees r 0 + 1) 0 in_range
          ∙ (ap (λ (n : ℕ). n + 1) was
          ∙ sym (more ∙ ap (λ (n : ℕ). count + n) (cond-true (rack_at (racks_on left edges) at == rack) 1 0 one))))
      | inr other ↦
          let none : (rack_at (racks_on left edges) at == rack) ≡ false = ne_eqb _ _ (λ e. other (sym (r_is ∙ e))) in
          let step : ℕ = cond (rack_at (racks_on left edges) at == rack) 1 0 in
          let nothing : step ≡ 0 = cond-false (rack_at (racks_on left edges) at == rack) 1 0 none in
          let stays : degree_on left rack (take (at + 1) edges) ≡ count = omega (arith, more) in
          get_or-set_other degrees r rack (get_or degrees r 0 + 1) 0 other ∙ (so_far rack here ∙ sym stays)
    ]

-- a rack that no edge has
degree_outside : (left : Bool) (edges : List Edge) (rack racks : ℕ) → All (λ edge. rack_on left edge < racks) edges → racks ≤ rack → degree_on left rack edges ≡ 0
degree_outside left [] rack racks below above = refl
degree_outside left (e ∷ edges) rack racks below above =
    let one : ℕ = cond (rack_on left e == rack) 1 0 in
    let here : rack_on left e < racks = All-head (λ edge. rack_on left edge < racks) e edges below in
    let none : one ≡ 0 = cond-false (rack_on left e == rack) 1 0 (ne_eqb _ _ (λ same. omega arith)) in
    let count : degree_on left rack (e ∷ edges) ≡ one + degree_on left rack edges = sum_by-cons (λ edge. cond (rack_on left edge == rack) 1 0) e edges in
    let rest : degree_on left rack edges ≡ 0 = degree_outside left edges rack racks (All-tail (λ edge. rack_on left edge < racks) e edges below) above in
    omega arith

pub side_below : (left : Bool) (racks : ℕ) (edges : List Edge) → HasRacksBelow racks edges → All (λ edge. rack_on left edge < racks) edges
side_below true racks edges below = λ k d within. (below k d within).0
side_below false racks edges below = λ k d within. (below k d within).1

pub racks_below : (left : Bool) (racks : ℕ) (edges : List Edge) → HasRacksBelow racks edges → All (λ rack. rack < racks) (racks_on left edges)
racks_below left racks edges below = All-map (λ rack. rack < racks) (rack_on left) edges (side_below left racks edges below)

abbrev pub AreDegrees : Bool → List Edge → List ℕ → Type 0
AreDegrees left edges degrees = (rack : ℕ) → rack < length degrees → get_or degrees rack 0 ≡ degree_on left rack edges

-- every degree of a side is within the bound, also that of a rack that no edge has
pub degrees_within : (left : Bool) (edges : List Edge) (degrees : List ℕ) (most : ℕ) → HasRacksBelow (length degrees) edges → AreDegrees left edges degrees → All (λ degree. degree ≤ most) degrees
    → (rack : ℕ) → degree_on left rack edges ≤ most
degrees_within left edges degrees most below are within rack =
    elim (cases_lt rack (length degrees)) [
      | inl inside ↦ let bound : get_or degrees rack 0 ≤ most = within rack 0 inside in omega (arith, are rack inside)
      | inr outside ↦ omega (arith, degree_outside left edges rack (length degrees) (side_below left (length degrees) edges below) outside)
    ]

pub both_within : (edges : List Edge) (most : ℕ) → ((rack : ℕ) → degree_on true rack edges ≤ most) → ((rack : ℕ) → degree_on false rack edges ≤ most) → HasDegreesWithin most edges
both_within edges most lefts rights true rack = lefts rack
both_within edges most lefts rights false rack = rights rack

pub excess_is_first : (left : Bool) (edges : List Edge) (degrees : List ℕ) (most : ℕ) (found : Degree) → AreDegrees left edges degrees → IsFirstOf most left degrees found
    → (left ≡ false → (rack : ℕ) → degree_on true rack edges ≤ most) → IsFirstExcess most edges found
excess_is_first left edges degrees most found are first lefts =
    let P : Bool → Type 0 = λ side. found.degree ≡ degree_on side found.rack edges in
    let Q : Bool → Type 0 = λ side. (rack : ℕ) → rack < found.rack → degree_on side rack edges ≤ most in
    record {
      is = subst P (sym first.side) (first.is ∙ are found.rack first.within);
      excess = first.excess;
      first = subst Q (sym first.side) (λ rack lt. let bound : get_or degrees rack 0 ≤ most = first.first rack lt in omega (arith, are rack (omega (arith, first.within))));
      left_first = λ is. lefts (sym first.side ∙ is);
    }

-- what either answer says, said of more
pub match_more : {X : Type 0} (o : Option X) (A C : Type 0) (B D : X → Type 0) → MatchOption o A B → (A → C) → ((x : X) → B x → D x) → MatchOption o C D
match_more None A C B D is none some = none is
match_more (Some x) A C B D is none some = some x is
