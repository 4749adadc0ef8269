-- The exchange of two cores x and y along an alternating path, edge by edge. An edge is displaced where one side, the near
-- one, already has it at y and the far side still at x. It takes y at its far rack too, and the edge that held y there is
-- displaced in its stead, with the sides and the cores exchanged. Each edge is displaced once: one that was would have held
-- x before, at the same rack as the edge that displaces it.
use Rattle.std.proofs.Common.{◌≡◌, ◌≢◌, ◌<◌, ◌+◌, ℕ, zero, suc, List, [], ◌∷◌, length, set, Bool, true, false, ◌==◌, cond, Option, Some, None, All, sym, ap, ◌∙◌, subst, arith, inl, inr}
use Rattle.std.proofs.lemmas.Bool.{cases_eq, eq-eqb, ne_eqb, cond-true, cond-false}
use Rattle.std.proofs.lemmas.List.{get_or-set_same, get_or-set_other, length-set, length-map}
use Rattle.clos_topology.specs.declared.graph.Edge.{Edge}
use Rattle.edge_colouring.specs.Degrees.{rack_on, racks_on}
use Rattle.edge_colouring.specs.Cores.{core_in}
use Rattle.edge_colouring.specs.Holders.{holder, with_holder, IsRackOf, HoldsColours}
use Rattle.edge_colouring.specs.Turns.{IsTurned, AreTurned, IsTurn, BeginsPath, handed_on}
use Rattle.edge_colouring.proofs.HoldsLemmas.{rack_at, named-within, Holds-moved, Holds-exchanged, one_holder}

pub record IsDisplaced (far near : List ℕ) (x y : ℕ) (T N c : List (Option ℕ)) (f : ℕ) : Type 0 where
  pub far_side : HoldsColours far c T
  pub near_side : HoldsColours near (set c f (Some y)) N
  pub now : core_in c f ≡ Some x

-- nobody held y there: the path ends
pub path_ends : (far near : List ℕ) (x y : ℕ) (T N c : List (Option ℕ)) (f : ℕ) → IsDisplaced far near x y T N c f → x < 64 → y < 64 → x ≢ y → IsRackOf T (rack_at far f) → holder T (rack_at far f) y ≡ None
    → HoldsColours far (set c f (Some y)) (handed_on far x y T f)
path_ends far near x y T N c f is small_x small_y differ room free =
    subst (λ o. HoldsColours far (set c f (Some y)) (with_holder (with_holder T (rack_at far f) y (Some f)) (rack_at far f) x o)) (sym free)
    (Holds-moved far c T f x y is.far_side is.now small_x small_y differ room free)

-- who held y there is displaced next
pub path_goes_on : (far near : List ℕ) (x y : ℕ) (T N c : List (Option ℕ)) (f g : ℕ) → IsDisplaced far near x y T N c f → x < 64 → y < 64 → x ≢ y → IsRackOf T (rack_at far f) → holder T (rack_at far f) y ≡ Some g
    → IsDisplaced near far y x N (handed_on far x y T f) (set c f (Some y)) g
path_goes_on far near x y T N c f g is small_x small_y differ room taken =
    let there = is.far_side.holds (rack_at far f) y g small_y taken in
    let other : g ≢ f = λ e. let same : core_in c g ≡ core_in c f = ap (core_in c) e in let meet : Some y ≡ Some x = sym there.1 ∙ (same ∙ is.now) in let equal : y ≡ x = cc in differ (sym equal) in
    record {
      far_side = is.near_side;
      near_side = subst (λ o. HoldsColours far (set (set c f (Some y)) g (Some x)) (with_holder (with_holder T (rack_at far f) y (Some f)) (rack_at far f) x o)) (sym taken)
          (Holds-exchanged far c T f g x y is.far_side is.now small_x small_y differ room taken);
      now = get_or-set_other c f g (Some y) None other ∙ there.1;
    }

-- no two edges of a rack had this core in the beginning
abbrev pub HadOneEach : List ℕ → List (Option ℕ) → ℕ → Type 0
HadOneEach racks c x = (k l : ℕ) → rack_at racks k ≡ rack_at racks l → core_in c k ≡ Some x → core_in c l ≡ Some x → k ≡ l

-- who is displaced next has the core that it had in the beginning
pub next_is_new : (far : List ℕ) (x y : ℕ) (c c0 : List (Option ℕ)) (f g : ℕ) → x ≢ y → rack_at far g ≡ rack_at far f → core_in c f ≡ Some x → core_in c g ≡ Some y
    → HadOneEach far c0 x → core_in c0 f ≡ Some x → IsTurned x y (core_in c0 g) (core_in c g) → core_in c0 g ≡ Some y
next_is_new far x y c c0 f g differ there now has one had turned =
    elim turned [
      | inl same ↦ sym same ∙ has
      | inr (inl to_y) ↦
          let same : f ≡ g = one f g (sym there) had to_y.0 in
          let meet : Some x ≡ Some y = sym now ∙ (ap (core_in c) same ∙ has) in
          let equal : x ≡ y = cc in
          absurd (differ equal)
      | inr (inr to_x) ↦
          let meet : Some x ≡ Some y = sym to_x.1 ∙ has in
          let equal : x ≡ y = cc in
          absurd (differ equal)
    ]

pub turned_back : (a b : ℕ) (old new : Option ℕ) → IsTurned a b old new → IsTurned b a old new
turned_back a b old new is = elim is [ inl same ↦ inl same | inr (inl one) ↦ inr (inr one) | inr (inr two) ↦ inr (inl two) ]

pub AreTurned-back : (a b : ℕ) (c0 c : List (Option ℕ)) → AreTurned a b c0 c → AreTurned b a c0 c
AreTurned-back a b c0 c is = record { count = is.count; each = λ at. turned_back a b (core_in c0 at) (core_in c at) (is.each at) }

-- an edge that had x takes y
pub AreTurned-more : (x y : ℕ) (c0 c : List (Option ℕ)) (f : ℕ) → AreTurned x y c0 c → core_in c0 f ≡ Some x → f < length c → AreTurned x y c0 (set c f (Some y))
AreTurned-more x y c0 c f is had within = record {
  count = length-set c f (Some y) ∙ is.count;
  each = λ at. elim (cases_eq at f) [
    | inl same ↦ inr (inl (ap (core_in c0) same ∙ had, ap (core_in (set c f (Some y))) same ∙ get_or-set_same c f (Some y) None within))
    | inr other ↦ subst (IsTurned x y (core_in c0 at)) (sym (get_or-set_other c f at (Some y) None other)) (is.each at)
  ];
}

-- the walk along the path: the edge that is displaced has the core that it had in the beginning, and only edges of the path
-- have changed theirs
pub record IsOnPath (far near : List ℕ) (x y : ℕ) (c0 T N c : List (Option ℕ)) (f : ℕ) : Type 0 where
  pub displaced : IsDisplaced far near x y T N c f
  pub before : core_in c0 f ≡ Some x
  pub turned : AreTurned x y c0 c

pub path_step : {far near : List ℕ} {x y : ℕ} {c0 T T' N c c' : List (Option ℕ)} {f g : ℕ} {o : Option ℕ} → IsOnPath far near x y c0 T N c f → IsTurn far x y T T' c c' f o → x < 64 → y < 64 → x ≢ y
    → IsRackOf T (rack_at far f) → HadOneEach far c0 x → o ≡ Some g → IsOnPath near far y x c0 N T' c' g
path_step {far} {near} {x} {y} {c0} {T} {T'} {N} {c} {c'} {f} {g} {o} path turn small_x small_y differ room one goes =
    let taken : holder T (rack_at far f) y ≡ Some g = sym turn.answer ∙ goes in
    let within : f < length c = named-within c f x path.displaced.now in
    let there = path.displaced.far_side.holds (rack_at far f) y g small_y taken in
    let step : IsOnPath near far y x c0 N (handed_on far x y T f) (set c f (Some y)) g = record {
      displaced = path_goes_on far near x y T N c f g path.displaced small_x small_y differ room taken;
      before = next_is_new far x y c c0 f g differ there.0 path.displaced.now there.1 one path.before (path.turned.each g);
      turned = AreTurned-back x y c0 (set c f (Some y)) (AreTurned-more x y c0 c f path.turned path.before within);
    } in
    subst (λ k. IsOnPath near far y x c0 N T' k g) (sym turn.colours) (subst (λ h. IsOnPath near far y x c0 N h (set c f (Some y)) g) (sym turn.holders) step)

pub record HasEnded (far near : List ℕ) (x y : ℕ) (c0 T N c : List (Option ℕ)) : Type 0 where
  pub far_side : HoldsColours far c T
  pub near_side : HoldsColours near c N
  pub turned : AreTurned x y c0 c

pub path_end : {far near : List ℕ} {x y : ℕ} {c0 T T' N c c' : List (Option ℕ)} {f : ℕ} {o : Option ℕ} → IsOnPath far near x y c0 T N c f → IsTurn far x y T T' c c' f o → x < 64 → y < 64 → x ≢ y
    → IsRackOf T (rack_at far f) → o ≡ None → HasEnded far near x y c0 T' N c'
path_end {far} {near} {x} {y} {c0} {T} {T'} {N} {c} {c'} {f} {o} path turn small_x small_y differ room ends =
    let free : holder T (rack_at far f) y ≡ None = sym turn.answer ∙ ends in
    let within : f < length c = named-within c f x path.displaced.now in
    let end : HasEnded far near x y c0 (handed_on far x y T f) N (set c f (Some y)) = record {
      far_side = path_ends far near x y T N c f path.displaced small_x small_y differ room free;
      near_side = path.displaced.near_side;
      turned = AreTurned-more x y c0 c f path.turned path.before within;
    } in
    subst (λ k. HasEnded far near x y c0 T' N k) (sym turn.colours) (subst (λ h. HasEnded far near x y c0 h N (set c f (Some y))) (sym turn.holders) end)

-- how many edges have the core that they had
pub same_option : Option ℕ → Option ℕ → Bool
same_option None None = true
same_option None (Some y) = false
same_option (Some x) None = false
same_option (Some x) (Some y) = x == y

abbrev pub unmoved : List (Option ℕ) → List (Option ℕ) → ℕ
unmoved [] olds = 0
unmoved (new ∷ news) [] = 0
unmoved (new ∷ news) (old ∷ olds) = cond (same_option new old) 1 0 + unmoved news olds

same_option-refl : (new old : Option ℕ) (x : ℕ) → new ≡ Some x → old ≡ Some x → same_option new old ≡ true
unfolding same_option
same_option-refl None old x new_is old_is = cc
same_option-refl (Some k) None x new_is old_is = cc
same_option-refl (Some k) (Some l) x new_is old_is = let same : k ≡ l = cc in eq-eqb k l same

same_option-other : (old : Option ℕ) (x y : ℕ) → old ≡ Some x → x ≢ y → same_option (Some y) old ≡ false
unfolding same_option
same_option-other None x y old_is differ = cc
same_option-other (Some k) x y old_is differ = let same : k ≡ x = cc in ne_eqb y k (λ e. differ (sym (e ∙ same)))

pub unmoved-set : (news olds : List (Option ℕ)) (i x y : ℕ) → core_in news i ≡ Some x → core_in olds i ≡ Some x → x ≢ y → unmoved (set news i (Some y)) olds + 1 ≡ unmoved news olds
unmoved-set [] olds i x y has had differ = cc
unmoved-set (new ∷ news) [] i x y has had differ = cc
unmoved-set (new ∷ news) (old ∷ olds) zero x y has had differ =
    let here : ℕ = cond (same_option new old) 1 0 in
    let there : ℕ = cond (same_option (Some y) old) 1 0 in
    let was : here ≡ 1 = cond-true (same_option new old) 1 0 (same_option-refl new old x has had) in
    let is : there ≡ 0 = cond-false (same_option (Some y) old) 1 0 (same_option-other old x y had differ) in
    omega arith
unmoved-set (new ∷ news) (old ∷ olds) (suc i) x y has had differ =
    let rest : unmoved (set news i (Some y)) olds + 1 ≡ unmoved news olds = unmoved-set news olds i x y has had differ in
    omega arith

-- a turn leaves one edge fewer where it was
pub turn_is_smaller : {far near : List ℕ} {x y : ℕ} {c0 T T' N c c' : List (Option ℕ)} {f : ℕ} {o : Option ℕ} → IsOnPath far near x y c0 T N c f → IsTurn far x y T T' c c' f o → x ≢ y → unmoved c' c0 + 1 ≡ unmoved c c0
turn_is_smaller {far} {near} {x} {y} {c0} {T} {T'} {N} {c} {c'} {f} {o} path turn differ =
    ap (λ (k : List (Option ℕ)). unmoved k c0 + 1) turn.colours ∙ unmoved-set c c0 f x y path.displaced.now path.before differ

-- no two edges of a rack had one core, by who held it
pub HadOneEach-from_held : (racks : List ℕ) (c0 H0 : List (Option ℕ)) (x : ℕ) → HoldsColours racks c0 H0 → x < 64 → HadOneEach racks c0 x
HadOneEach-from_held racks c0 H0 x held small = λ k l same k_has l_has. one_holder racks c0 H0 k l x held small same k_has l_has

-- nor without an edge that has this core later
pub HadOneEach-from_set : (racks : List ℕ) (c0 : List (Option ℕ)) (first a b : ℕ) → HadOneEach racks (set c0 first (Some a)) a → a ≢ b → core_in c0 first ≡ Some b → HadOneEach racks c0 a
HadOneEach-from_set racks c0 first a b one differ is k l same k_has l_has =
    let apart : (m : ℕ) → core_in c0 m ≡ Some a → m ≢ first = λ m has e. let meet : Some a ≡ Some b = sym has ∙ (ap (core_in c0) e ∙ is) in let equal : a ≡ b = cc in differ equal in
    one k l same
    (get_or-set_other c0 first k (Some a) None (apart k k_has) ∙ k_has)
    (get_or-set_other c0 first l (Some a) None (apart l l_has) ∙ l_has)

-- the same on the side where the first edge is held at a already
pub HadOneEach-from_first : (racks : List ℕ) (c0 H0 : List (Option ℕ)) (first a b : ℕ) → HoldsColours racks (set c0 first (Some a)) H0 → a < 64 → a ≢ b → core_in c0 first ≡ Some b → HadOneEach racks c0 a
HadOneEach-from_first racks c0 H0 first a b held small differ is =
    HadOneEach-from_set racks c0 first a b (HadOneEach-from_held racks (set c0 first (Some a)) H0 a held small) differ is

-- a rack of a side that has kept its size
pub room_at : (racks : List ℕ) (T0 T : List (Option ℕ)) (at : ℕ) → All (IsRackOf T0) racks → length T ≡ length T0 → at < length racks → IsRackOf T (rack_at racks at)
room_at racks T0 T at rooms same below = let room : IsRackOf T0 (rack_at racks at) = rooms at 0 below in omega arith

-- The walk from the first edge of a path: a turn at the right side, then one at the left side.

right_apart : {edges : List Edge} {a b first : ℕ} {c0 L0 R0 : List (Option ℕ)} → BeginsPath edges a b first c0 L0 R0 → b ≢ a
right_apart begins = λ e. begins.differ (sym e)

pub right_room : {edges : List Edge} {a b first : ℕ} {c0 L0 R0 R L c : List (Option ℕ)} {f : ℕ} → BeginsPath edges a b first c0 L0 R0 → IsOnPath (racks_on false edges) (racks_on true edges) b a c0 R L c f → length R ≡ length R0
    → (f < length edges) × IsRackOf R (rack_at (racks_on false edges) f)
right_room {edges} {a} {b} {first} {c0} {L0} {R0} {R} {L} {c} {f} begins path same =
    let within : f < length c0 = named-within c0 f b path.before in
    (omega (arith, begins.count), room_at (racks_on false edges) R0 R f begins.right_racks same (omega (arith, begins.count, length-map edges (rack_on false))))

pub left_room : {edges : List Edge} {a b first : ℕ} {c0 L0 R0 R L c : List (Option ℕ)} {f : ℕ} → BeginsPath edges a b first c0 L0 R0 → IsOnPath (racks_on true edges) (racks_on false edges) a b c0 L R c f → length L ≡ length L0
    → (f < length edges) × IsRackOf L (rack_at (racks_on true edges) f)
left_room {edges} {a} {b} {first} {c0} {L0} {R0} {R} {L} {c} {f} begins path same =
    let within : f < length c0 = named-within c0 f a path.before in
    (omega (arith, begins.count), room_at (racks_on true edges) L0 L f begins.left_racks same (omega (arith, begins.count, length-map edges (rack_on true))))

pub right_turn : {edges : List Edge} {a b first : ℕ} {c0 L0 R0 R R' L c c' : List (Option ℕ)} {f g : ℕ} {o : Option ℕ} → BeginsPath edges a b first c0 L0 R0 → IsOnPath (racks_on false edges) (racks_on true edges) b a c0 R L c f
    → IsTurn (racks_on false edges) b a R R' c c' f o → length R ≡ length R0 → o ≡ Some g → IsOnPath (racks_on true edges) (racks_on false edges) a b c0 L R' c' g
right_turn {edges} {a} {b} {first} {c0} {L0} {R0} begins path turn same goes =
    path_step path turn begins.small_b begins.small_a (right_apart begins) (right_room begins path same).1 (HadOneEach-from_held (racks_on false edges) c0 R0 b begins.right_side begins.small_b) goes

pub left_turn : {edges : List Edge} {a b first : ℕ} {c0 L0 R0 R L L' c c' : List (Option ℕ)} {f g : ℕ} {o : Option ℕ} → BeginsPath edges a b first c0 L0 R0 → IsOnPath (racks_on true edges) (racks_on false edges) a b c0 L R c f
    → IsTurn (racks_on true edges) a b L L' c c' f o → length L ≡ length L0 → o ≡ Some g → IsOnPath (racks_on false edges) (racks_on true edges) b a c0 R L' c' g
left_turn {edges} {a} {b} {first} {c0} {L0} {R0} begins path turn same goes =
    path_step path turn begins.small_a begins.small_b begins.differ (left_room begins path same).1
    (HadOneEach-from_first (racks_on true edges) c0 L0 first a b begins.left_side begins.small_a begins.differ begins.core) goes

pub right_end : {edges : List Edge} {a b first : ℕ} {c0 L0 R0 R R' L c c' : List (Option ℕ)} {f : ℕ} {o : Option ℕ} → BeginsPath edges a b first c0 L0 R0 → IsOnPath (racks_on false edges) (racks_on true edges) b a c0 R L c f
    → IsTurn (racks_on false edges) b a R R' c c' f o → length R ≡ length R0 → o ≡ None → HasEnded (racks_on false edges) (racks_on true edges) b a c0 R' L c'
right_end begins path turn same ends = path_end path turn begins.small_b begins.small_a (right_apart begins) (right_room begins path same).1 ends

pub left_end : {edges : List Edge} {a b first : ℕ} {c0 L0 R0 R L L' c c' : List (Option ℕ)} {f : ℕ} {o : Option ℕ} → BeginsPath edges a b first c0 L0 R0 → IsOnPath (racks_on true edges) (racks_on false edges) a b c0 L R c f
    → IsTurn (racks_on true edges) a b L L' c c' f o → length L ≡ length L0 → o ≡ None → HasEnded (racks_on true edges) (racks_on false edges) a b c0 L' R c'
left_end begins path turn same ends = path_end path turn begins.small_a begins.small_b begins.differ (left_room begins path same).1 ends
