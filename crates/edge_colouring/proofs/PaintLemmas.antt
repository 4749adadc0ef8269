-- The next edge of a graph finds its cores: fewer edges than its rack's degree have theirs, so one below the degree is free.
use Rattle.std.proofs.Common.{◌≡◌, ◌<◌, ◌≤◌, ◌+◌, ◌*◌, ℕ, zero, suc, List, [], ◌∷◌, ◌++◌, length, Bool, true, false, not, ◌==◌, ◌&&◌, nat_lt, cond, Option, Some, None, IsSomeAnd, IsTrue, refl, sym, ap, ◌∙◌, subst, arith, inl, inr}
use Rattle.std.specs.Option.{is_some}
use Rattle.std.proofs.lemmas.Bool.{cases_lt, cond-true, cond-false, eq-eqb, lt-ltb, le-ltb, and_parts, and_from, and_right, ltb-true}
use Rattle.std.proofs.lemmas.List.{get_or_default, get_or_push, set_at, length-set, length-map, length_push}
use Rattle.std.proofs.lemmas.List.Elements.{All-push}
use Rattle.std.proofs.lemmas.List.Sums.{sum_by-cons}
use Rattle.clos_topology.specs.declared.graph.Edge.{Edge}
use Rattle.edge_colouring.specs.Degrees.{rack_on, racks_on, degree_on, HasDegreesWithin}
use Rattle.edge_colouring.specs.Cores.{core_in}
use Rattle.edge_colouring.specs.Holders.{holder, with_holder, is_free_holder, IsRackOf, IsLowest, HoldsColours}
use Rattle.edge_colouring.specs.Turns.{IsTurned, AreTurned, BeginsPath}
use Rattle.edge_colouring.specs.Painted.{AreNamed, HasRacks, IsPainted, Awaits}
use Rattle.edge_colouring.proofs.HoldsLemmas.{rack_at, IsTakenAt, named-within, Holds-push}

unfoldable pub is_below : ℕ → Option ℕ → Bool
is_below m None = false
is_below m (Some core) = nat_lt core m

-- how many edges at a rack have a core below m
unfoldable pub taken_below : ℕ → ℕ → List ℕ → List (Option ℕ) → ℕ
taken_below m t [] c = 0
taken_below m t (r ∷ racks) [] = 0
taken_below m t (r ∷ racks) (o ∷ c) = cond ((r == t) && is_below m o) 1 0 + taken_below m t racks c

below_more : (m : ℕ) (o : Option ℕ) → is_below m o ≡ true → is_below (m + 1) o ≡ true
unfolding is_below
below_more m None is = is
below_more m (Some core) is = lt-ltb core (m + 1) (let lt : core < m = ltb-true core m is in omega arith)

pub one_le : (p q : Bool) → (p ≡ true → q ≡ true) → cond p 1 0 ≤ cond q 1 0
one_le true true step = omega arith
one_le true false step = let e : false ≡ true = step refl in cc
one_le false true step = omega arith
one_le false false step = omega arith

taken_grows : (m t : ℕ) (racks : List ℕ) (c : List (Option ℕ)) → taken_below m t racks c ≤ taken_below (m + 1) t racks c
unfolding taken_below
taken_grows m t [] c = omega arith
taken_grows m t (r ∷ racks) [] = omega arith
taken_grows m t (r ∷ racks) (o ∷ c) =
    let here : ℕ = cond ((r == t) && is_below m o) 1 0 in
    let there : ℕ = cond ((r == t) && is_below (m + 1) o) 1 0 in
    let le : here ≤ there = one_le ((r == t) && is_below m o) ((r == t) && is_below (m + 1) o) (λ e. let both = and_parts (r == t) (is_below m o) e in and_from (r == t) (is_below (m + 1) o) both.0 (below_more m o both.1)) in
    let rest : taken_below m t racks c ≤ taken_below (m + 1) t racks c = taken_grows m t racks c in
    omega arith

is_below-self : (m : ℕ) (o : Option ℕ) → o ≡ Some m → (is_below m o ≡ false) × (is_below (m + 1) o ≡ true)
unfolding is_below
is_below-self m None is = cc
is_below-self m (Some core) is = let same : core ≡ m = cc in (le-ltb core m (omega arith), lt-ltb core (m + 1) (omega arith))

-- an edge that has core m is counted below m + 1, and not below m
taken_more : (m t : ℕ) (racks : List ℕ) (c : List (Option ℕ)) (at : ℕ) → at < length racks → rack_at racks at ≡ t → core_in c at ≡ Some m → taken_below m t racks c + 1 ≤ taken_below (m + 1) t racks c
unfolding taken_below
taken_more m t [] c at within rack_is has = absurd (omega arith)
taken_more m t (r ∷ racks) [] at within rack_is has = cc
taken_more m t (r ∷ racks) (o ∷ c) zero within rack_is has =
    let here : ℕ = cond ((r == t) && is_below m o) 1 0 in
    let there : ℕ = cond ((r == t) && is_below (m + 1) o) 1 0 in
    let self = is_below-self m o has in
    let no : here ≡ 0 = cond-false ((r == t) && is_below m o) 1 0 (and_right (r == t) (is_below m o) self.0) in
    let yes : there ≡ 1 = cond-true ((r == t) && is_below (m + 1) o) 1 0 (and_from (r == t) (is_below (m + 1) o) (eq-eqb r t rack_is) self.1) in
    let rest : taken_below m t racks c ≤ taken_below (m + 1) t racks c = taken_grows m t racks c in
    omega arith
taken_more m t (r ∷ racks) (o ∷ c) (suc at) within rack_is has =
    let here : ℕ = cond ((r == t) && is_below m o) 1 0 in
    let there : ℕ = cond ((r == t) && is_below (m + 1) o) 1 0 in
    let le : here ≤ there = one_le ((r == t) && is_below m o) ((r == t) && is_below (m + 1) o) (λ e. let both = and_parts (r == t) (is_below m o) e in and_from (r == t) (is_below (m + 1) o) both.0 (below_more m o both.1)) in
    let rest : taken_below m t racks c + 1 ≤ taken_below (m + 1) t racks c = taken_more m t racks c at (omega arith) rack_is has in
    omega arith

-- an edge that has no core yet is none of them
pub taken_and_one : (left : Bool) (m t : ℕ) (edges : List Edge) (c : List (Option ℕ)) → length c < length edges → rack_at (racks_on left edges) (length c) ≡ t → taken_below m t (racks_on left edges) c + 1 ≤ degree_on left t edges
unfolding taken_below
taken_and_one left m t [] c short is = absurd (omega arith)
taken_and_one left m t (e ∷ edges) [] short is =
    let one : ℕ = cond (rack_on left e == t) 1 0 in
    let yes : one ≡ 1 = cond-true (rack_on left e == t) 1 0 (eq-eqb _ _ is) in
    let count : degree_on left t (e ∷ edges) ≡ one + degree_on left t edges = sum_by-cons (λ edge. cond (rack_on left edge == t) 1 0) e edges in
    omega arith
taken_and_one left m t (e ∷ edges) (o ∷ c) short is =
    let one : ℕ = cond (rack_on left e == t) 1 0 in
    let here : ℕ = cond ((rack_on left e == t) && is_below m o) 1 0 in
    let le : here ≤ one = one_le ((rack_on left e == t) && is_below m o) (rack_on left e == t) (λ both. (and_parts (rack_on left e == t) (is_below m o) both).0) in
    let count : degree_on left t (e ∷ edges) ≡ one + degree_on left t edges = sum_by-cons (λ edge. cond (rack_on left edge == t) 1 0) e edges in
    let rest : taken_below m t (racks_on left edges) c + 1 ≤ degree_on left t edges = taken_and_one left m t edges c (omega arith) is in
    omega arith

holder_of : (o : Option ℕ) → not (is_some o) ≡ false → (at : ℕ) × (o ≡ Some at)
holder_of None held = cc
holder_of (Some at) held = (at, refl)

pub nobody : (o : Option ℕ) → IsTrue (not (is_some o)) → o ≡ None
nobody None free = refl
nobody (Some at) free = cc

-- where edges of a rack have the m lowest cores, so many of its edges have one of them
pub all_taken : (racks : List ℕ) (c : List (Option ℕ)) (t m : ℕ) → length c ≤ length racks → ((k : ℕ) → k < m → IsTakenAt racks c t k) → m ≤ taken_below m t racks c
all_taken racks c t zero count taken = omega arith
all_taken racks c t (suc m) count taken =
    let rest : m ≤ taken_below m t racks c = all_taken racks c t m count (λ k lt. taken k (omega arith)) in
    let who = taken m (omega arith) in
    let within : who.0 < length c = named-within c who.0 m who.2 in
    let more : taken_below m t racks c + 1 ≤ taken_below (m + 1) t racks c = taken_more m t racks c who.0 (omega arith) who.1 who.2 in
    let same : m + 1 ≡ suc m = omega arith in
    let P : ℕ → Type 0 = λ n. suc m ≤ taken_below n t racks c in
    subst P same (omega arith)

-- who holds a core that is not free
taken_by : (racks : List ℕ) (c H : List (Option ℕ)) (t k : ℕ) → HoldsColours racks c H → k < 64 → is_free_holder H t k ≡ false → IsTakenAt racks c t k
taken_by racks c H t k held small taken =
    let who = holder_of (holder H t k) taken in
    let is = held.holds t k who.0 small who.1 in
    (who.0, is.0, is.1)

-- the lowest free core at the next edge's rack is below the degrees' bound
pub free_below : (left : Bool) (edges : List Edge) (c H : List (Option ℕ)) (most t core : ℕ) → HoldsColours (racks_on left edges) c H → length c < length edges → most ≤ 64
    → degree_on left t edges ≤ most → rack_at (racks_on left edges) (length c) ≡ t → IsLowest (is_free_holder H t) core → core < most
free_below left edges c H most t core held short small degree is lowest =
    elim (cases_lt core most) [
      | inl below ↦ below
      | inr above ↦
          let many : most ≤ taken_below most t (racks_on left edges) c =
          all_taken (racks_on left edges) c t most (omega (arith, length-map edges (rack_on left))) (λ k lt. taken_by (racks_on left edges) c H t k held (omega arith) (lowest.first k (omega arith))) in
          let few : taken_below most t (racks_on left edges) c + 1 ≤ degree_on left t edges = taken_and_one left most t edges c short is in
          absurd (omega arith)
    ]

-- the edge that is next, at its left rack l and its right rack r

rack_room : (left : Bool) (edges : List Edge) (H : List (Option ℕ)) (n t : ℕ) → HasRacks left edges H → n < length edges → t ≡ rack_at (racks_on left edges) n → IsRackOf H t
rack_room left edges H n t racks below is = let room : IsRackOf H (rack_at (racks_on left edges) n) = racks n 0 (omega (arith, length-map edges (rack_on left))) in omega arith

pub left_room : {edges : List Edge} {most n : ℕ} {c L R : List (Option ℕ)} (l : ℕ) → Awaits edges most c L R n → l ≡ rack_at (racks_on true edges) n → IsRackOf L l
left_room {edges} {most} {n} {c} {L} {R} l next is = rack_room true edges L n l next.left_racks next.within is

pub right_room : {edges : List Edge} {most n : ℕ} {c L R : List (Option ℕ)} (r : ℕ) → Awaits edges most c L R n → r ≡ rack_at (racks_on false edges) n → IsRackOf R r
right_room {edges} {most} {n} {c} {L} {R} r next is = rack_room false edges R n r next.right_racks next.within is

pub left_below : {edges : List Edge} {most n : ℕ} {c L R : List (Option ℕ)} (l a : ℕ) → HasDegreesWithin most edges → Awaits edges most c L R n → l ≡ rack_at (racks_on true edges) n → IsLowest (is_free_holder L l) a → a < most
left_below {edges} {most} {n} {c} {L} {R} l a degrees next is lowest =
    free_below true edges c L most l a next.painted.left_side (omega (arith, next.within, next.count)) next.small (degrees true l) (ap (rack_at (racks_on true edges)) next.count ∙ sym is) lowest

pub right_below : {edges : List Edge} {most n : ℕ} {c L R : List (Option ℕ)} (r b : ℕ) → HasDegreesWithin most edges → Awaits edges most c L R n → r ≡ rack_at (racks_on false edges) n → IsLowest (is_free_holder R r) b → b < most
right_below {edges} {most} {n} {c} {L} {R} r b degrees next is lowest =
    free_below false edges c R most r b next.painted.right_side (omega (arith, next.within, next.count)) next.small (degrees false r) (ap (rack_at (racks_on false edges)) next.count ∙ sym is) lowest

-- it takes a core on one side
takes_at : (racks : List ℕ) (c H : List (Option ℕ)) (n t y : ℕ) → HoldsColours racks c H → length c ≡ n → y < 64 → IsRackOf H t → t ≡ rack_at racks n → IsTrue (is_free_holder H t y) → HoldsColours racks (c ++ Some y ∷ []) (with_holder H t y (Some n))
takes_at racks c H n t y held count small room is free =
    let P : ℕ → Type 0 = λ k. HoldsColours racks (c ++ Some y ∷ []) (with_holder H k y (Some n)) in
    let Q : ℕ → Type 0 = λ k. holder H k y ≡ None in
    let room' : IsRackOf H (rack_at racks n) = omega arith in
    subst P (sym is) (Holds-push racks c H n y held count small room' (subst Q is (nobody (holder H t y) free)))

pub takes_common : {edges : List Edge} {most n : ℕ} {c L R : List (Option ℕ)} (l r common : ℕ) → Awaits edges most c L R n → l ≡ rack_at (racks_on true edges) n → r ≡ rack_at (racks_on false edges) n
    → IsLowest (λ k. is_free_holder L l k && is_free_holder R r k) common → common < most
    → IsPainted edges most (c ++ Some common ∷ []) (with_holder L l common (Some n)) (with_holder R r common (Some n))
takes_common {edges} {most} {n} {c} {L} {R} l r common next left_is right_is lowest below =
    let small : common < 64 = omega (arith, next.small) in
    let free = and_parts (is_free_holder L l common) (is_free_holder R r common) (lowest.passes small) in
    record {
      named = All-push (λ o. IsSomeAnd o (λ core. core < most)) c (Some common) next.painted.named below;
      left_side = takes_at (racks_on true edges) c L n l common next.painted.left_side next.count small (left_room l next left_is) left_is free.0;
      right_side = takes_at (racks_on false edges) c R n r common next.painted.right_side next.count small (right_room r next right_is) right_is free.1;
    }

pub same_racks : (left : Bool) (edges : List Edge) (H H' : List (Option ℕ)) → length H' ≡ length H → HasRacks left edges H → HasRacks left edges H'
same_racks left edges H H' same racks = λ k d below. let room = racks k d below in omega arith

-- where no core below the bound is common, it takes the one on the left side and the other on the right side
pub begins_path : {edges : List Edge} {most n : ℕ} {c L R : List (Option ℕ)} (l r common a b : ℕ) → Awaits edges most c L R n → l ≡ rack_at (racks_on true edges) n → r ≡ rack_at (racks_on false edges) n
    → IsLowest (λ k. is_free_holder L l k && is_free_holder R r k) common → most ≤ common → IsLowest (is_free_holder L l) a → IsLowest (is_free_holder R r) b → a < most → b < most
    → BeginsPath edges a b n (c ++ Some b ∷ []) (with_holder L l a (Some n)) (with_holder R r b (Some n))
begins_path {edges} {most} {n} {c} {L} {R} l r common a b next left_is right_is lowest none lowest_a lowest_b below_a below_b =
    let small_a : a < 64 = omega (arith, next.small) in
    let small_b : b < 64 = omega (arith, next.small) in
    let free_a : is_free_holder L l a ≡ true = lowest_a.passes small_a in
    let free_b : is_free_holder R r b ≡ true = lowest_b.passes small_b in
    record {
      count = omega (arith, length_push c (Some b), next.within, next.count);
      left_racks = same_racks true edges L (with_holder L l a (Some n)) (length-set L (l * 64 + a) (Some n)) next.left_racks;
      right_racks = same_racks false edges R (with_holder R r b (Some n)) (length-set R (r * 64 + b) (Some n)) next.right_racks;
      small_a = small_a;
      small_b = small_b;
      differ = λ same.
          let both : (is_free_holder L l a && is_free_holder R r a) ≡ true = and_from (is_free_holder L l a) (is_free_holder R r a) free_a (ap (is_free_holder R r) same ∙ free_b) in
          let not_both : (is_free_holder L l a && is_free_holder R r a) ≡ false = lowest.first a (omega arith) in
          cc;
      core = get_or_push c (Some b) None n next.count;
      left_side = subst (λ k. HoldsColours (racks_on true edges) k (with_holder L l a (Some n))) (sym (set_at c (Some b) [] (Some a) n next.count))
          (takes_at (racks_on true edges) c L n l a next.painted.left_side next.count small_a (left_room l next left_is) left_is free_a);
      right_side = takes_at (racks_on false edges) c R n r b next.painted.right_side next.count small_b (right_room r next right_is) right_is free_b;
    }

-- an exchange of two cores below the bound keeps the cores below it
named_turned : (most a b : ℕ) (old new : Option ℕ) → a < most → b < most → IsTurned a b old new → IsSomeAnd old (λ core. core < most) → IsSomeAnd new (λ core. core < most)
named_turned most a b old new below_a below_b turned named =
    let P : Option ℕ → Type 0 = λ o. IsSomeAnd o (λ core. core < most) in
    elim turned [
      | inl same ↦ subst P (sym same) named
      | inr (inl to_b) ↦ subst P (sym to_b.1) below_b
      | inr (inr to_a) ↦ subst P (sym to_a.1) below_a
    ]

pub named_after : (most a b : ℕ) (c c' : List (Option ℕ)) → a < most → b < most → AreTurned a b c c' → AreNamed most c → AreNamed most c'
named_after most a b c c' below_a below_b turned named k d below =
    let P : Option ℕ → Type 0 = λ o. IsSomeAnd o (λ core. core < most) in
    let within : k < length c = omega (arith, turned.count) in
    subst P (get_or_default c' k None d below) (named_turned most a b (core_in c k) (core_in c' k) below_a below_b (turned.each k) (named k None within))
