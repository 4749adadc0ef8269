-- Cores bound degrees: no two edges of a rack on a side have one core, so it has at most as many edges as there are cores.
use Rattle.std.proofs.Common.{◌≡◌, ◌≢◌, ◌<◌, ◌≤◌, ◌+◌, ℕ, zero, suc, List, [], ◌∷◌, length, Bool, true, false, ◌==◌, ◌&&◌, cond, Option, Some, None, IsSomeAnd, refl, sym, ap, ◌∙◌, subst, arith, inl, inr}
use Rattle.std.proofs.lemmas.Bool.{cases_Bool, cond-true, cond-false, eqb-true, ltb-true, ltb-false, lt-ltb, le-ltb, and_parts, and_from, and_right}
use Rattle.std.proofs.lemmas.List.Elements.{All-head, All-tail}
use Rattle.std.proofs.lemmas.List.Sums.{sum_by-cons}
use Rattle.std.proofs.lemmas.Option.{same_Some}
use Rattle.clos_topology.specs.declared.graph.Edge.{Edge}
use Rattle.edge_colouring.specs.Degrees.{rack_on, racks_on, degree_on, HasDegreesWithin}
use Rattle.edge_colouring.specs.Cores.{core_in}
use Rattle.edge_colouring.specs.Holders.{holder, HoldsColours}
use Rattle.edge_colouring.specs.Painted.{AreNamed, IsPainted}
use Rattle.edge_colouring.proofs.HoldsLemmas.{rack_at}
use Rattle.edge_colouring.proofs.PaintLemmas.{is_below, taken_below, one_le}

core_is : (m : ℕ) (o : Option ℕ) → is_below (m + 1) o ≡ true → is_below m o ≡ false → o ≡ Some m
unfolding is_below
core_is m None below high = cc
core_is m (Some core) below high = ap (λ (n : ℕ). Some n) (let le : m ≤ core = ltb-false core m high in let lt : core < m + 1 = ltb-true core (m + 1) below in omega arith)

-- where no edge of a rack has core m, those with a core below m + 1 have one below m
none_more : (m t : ℕ) (racks : List ℕ) (c : List (Option ℕ)) → ((at : ℕ) → rack_at racks at ≡ t → core_in c at ≢ Some m) → taken_below (m + 1) t racks c ≤ taken_below m t racks c
unfolding taken_below
none_more m t [] c none = omega arith
none_more m t (r ∷ racks) [] none = omega arith
none_more m t (r ∷ racks) (o ∷ c) none =
    let here : ℕ = cond ((r == t) && is_below m o) 1 0 in
    let there : ℕ = cond ((r == t) && is_below (m + 1) o) 1 0 in
    let le : there ≤ here = one_le ((r == t) && is_below (m + 1) o) ((r == t) && is_below m o) (λ e.
    let both = and_parts (r == t) (is_below (m + 1) o) e in
    elim (cases_Bool (is_below m o)) [
      | inl below ↦ and_from (r == t) (is_below m o) both.0 below
      | inr high ↦ absurd (none zero (eqb-true r t both.0) (core_is m o both.1 high))
    ]) in
    let rest : taken_below (m + 1) t racks c ≤ taken_below m t racks c = none_more m t racks c (λ at. none (suc at)) in
    omega arith

-- where one edge of a rack at most has core m, they are one more at most
one_more : (m t : ℕ) (racks : List ℕ) (c : List (Option ℕ))
    → ((at other : ℕ) → rack_at racks at ≡ t → core_in c at ≡ Some m → rack_at racks other ≡ t → core_in c other ≡ Some m → at ≡ other) → taken_below (m + 1) t racks c ≤ taken_below m t racks c + 1
unfolding taken_below
one_more m t [] c one = omega arith
one_more m t (r ∷ racks) [] one = omega arith
one_more m t (r ∷ racks) (o ∷ c) one =
    let before : Bool = (r == t) && is_below m o in
    let after : Bool = (r == t) && is_below (m + 1) o in
    let here : ℕ = cond before 1 0 in
    let there : ℕ = cond after 1 0 in
    let small : there ≤ 1 = one_le after true (λ e. refl) in
    let rest : taken_below (m + 1) t racks c ≤ taken_below m t racks c + 1 =
    one_more m t racks c (λ at other rack has rack' has'. let same : suc at ≡ suc other = one (suc at) (suc other) rack has rack' has' in omega arith) in
    elim (cases_Bool before) [
      | inl low ↦ let is : here ≡ 1 = cond-true before 1 0 low in omega arith
      | inr not_low ↦ elim (cases_Bool after) [
        | inr none ↦ let is : there ≡ 0 = cond-false after 1 0 none in omega arith
        | inl first ↦
            let both = and_parts (r == t) (is_below (m + 1) o) first in
            let head : o ≡ Some m = elim (cases_Bool (is_below m o)) [
              | inl below ↦ let e : before ≡ true = and_from (r == t) (is_below m o) both.0 below in cc
              | inr high ↦ core_is m o both.1 high
            ] in
            let others : taken_below (m + 1) t racks c ≤ taken_below m t racks c =
            none_more m t racks c (λ at rack has. let same : zero ≡ suc at = one zero (suc at) (eqb-true r t both.0) head rack has in omega arith) in
            omega arith
      ]
    ]

none_below : (o : Option ℕ) → is_below 0 o ≡ false
unfolding is_below
none_below None = refl
none_below (Some core) = le-ltb core 0 (omega arith)

taken_none : (t : ℕ) (racks : List ℕ) (c : List (Option ℕ)) → taken_below 0 t racks c ≡ 0
unfolding taken_below
taken_none t [] c = refl
taken_none t (r ∷ racks) [] = refl
taken_none t (r ∷ racks) (o ∷ c) =
    let here : ℕ = cond ((r == t) && is_below 0 o) 1 0 in
    let is : here ≡ 0 = cond-false ((r == t) && is_below 0 o) 1 0 (and_right (r == t) (is_below 0 o) (none_below o)) in
    let rest : taken_below 0 t racks c ≡ 0 = taken_none t racks c in
    omega arith

-- no more edges of a rack have a core below m than there are such cores
few_taken : (racks : List ℕ) (c H : List (Option ℕ)) (t m : ℕ) → HoldsColours racks c H → m ≤ 64 → taken_below m t racks c ≤ m
few_taken racks c H t zero held small = let none : taken_below 0 t racks c ≡ 0 = taken_none t racks c in omega arith
few_taken racks c H t (suc m) held small =
    let holds : (at : ℕ) → rack_at racks at ≡ t → core_in c at ≡ Some m → holder H t m ≡ Some at = λ at rack has. ap (λ (r : ℕ). holder H r m) (sym rack) ∙ held.held at m (omega arith) has in
    let one : taken_below (m + 1) t racks c ≤ taken_below m t racks c + 1 = one_more m t racks c (λ at other rack has rack' has'. same_Some at other (sym (holds at rack has) ∙ holds other rack' has')) in
    let rest : taken_below m t racks c ≤ m = few_taken racks c H t m held (omega arith) in
    let same : m + 1 ≡ suc m = omega arith in
    subst (λ (n : ℕ). taken_below n t racks c ≤ suc m) same (omega arith)

named_below : (most : ℕ) (o : Option ℕ) → IsSomeAnd o (λ core. core < most) → is_below most o ≡ true
unfolding is_below
named_below most None named = absurd named
named_below most (Some core) named = lt-ltb core most named

-- each edge of a rack has a core below the bound
degree_taken : (left : Bool) (most t : ℕ) (edges : List Edge) (c : List (Option ℕ)) → length c ≡ length edges → AreNamed most c → degree_on left t edges ≤ taken_below most t (racks_on left edges) c
unfolding taken_below
degree_taken left most t [] c count named = let none : degree_on left t [] ≡ 0 = refl in omega arith
degree_taken left most t (e ∷ edges) [] count named = absurd (omega arith)
degree_taken left most t (e ∷ edges) (o ∷ c) count named =
    let P : Option ℕ → Type 0 = λ o. IsSomeAnd o (λ core. core < most) in
    let one : ℕ = cond (rack_on left e == t) 1 0 in
    let here : ℕ = cond ((rack_on left e == t) && is_below most o) 1 0 in
    let le : one ≤ here = one_le (rack_on left e == t) ((rack_on left e == t) && is_below most o) (λ at. and_from (rack_on left e == t) (is_below most o) at (named_below most o (All-head P o c named))) in
    let more : degree_on left t (e ∷ edges) ≡ one + degree_on left t edges = sum_by-cons (λ edge. cond (rack_on left edge == t) 1 0) e edges in
    let rest : degree_on left t edges ≤ taken_below most t (racks_on left edges) c = degree_taken left most t edges c (omega arith) (All-tail P o c named) in
    omega arith

-- where every edge has its core, no rack has more edges on a side than there are cores
pub degrees_painted : (edges : List Edge) (most : ℕ) (c L R : List (Option ℕ)) → most ≤ 64 → length c ≡ length edges → IsPainted edges most c L R → HasDegreesWithin most edges
degrees_painted edges most c L R small count painted true t =
    omega (arith, degree_taken true most t edges c count painted.named, few_taken (racks_on true edges) c L t most painted.left_side small)
degrees_painted edges most c L R small count painted false t =
    omega (arith, degree_taken false most t edges c count painted.named, few_taken (racks_on false edges) c R t most painted.right_side small)
