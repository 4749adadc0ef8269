-- The exchange of two cores along an alternating path, in the cores of the edges alone: who has a core at a rack is searched
-- for among the edges.
use Rattle.std.proofs.Common.{◌≡◌, ◌≢◌, ◌<◌, ◌≤◌, ◌⊎◌, ℕ, zero, suc, List, length, set, Option, Some, None, sym, ap, ◌∙◌, arith, inl, inr}
use Rattle.std.proofs.lemmas.Bool.{cases_eq}
use Rattle.std.proofs.lemmas.List.{get_or-set_same, get_or-set_other, length-set}
use Rattle.edge_colouring.specs.Cores.{core_in}
use Rattle.edge_colouring.specs.Turns.{AreTurned}
use Rattle.edge_colouring.proofs.HoldsLemmas.{rack_at, IsTakenAt, named-within}
use Rattle.edge_colouring.proofs.TurnLemmas.{HadOneEach, next_is_new, AreTurned-back, AreTurned-more, unmoved, unmoved-set}

-- no edge of a rack has this core
abbrev pub IsFreeAt : List ℕ → List (Option ℕ) → ℕ → ℕ → Type 0
IsFreeAt racks c rack core = (at : ℕ) → rack_at racks at ≡ rack → core_in c at ≢ Some core

same_or_other : (o : Option ℕ) (core : ℕ) → (o ≡ Some core) ⊎ (o ≢ Some core)
same_or_other None core = inr (λ e. cc)
same_or_other (Some k) core = elim (cases_eq k core) [
  | inl same ↦ inl (ap (λ (m : ℕ). Some m) same)
  | inr other ↦ inr (λ e. let same : k ≡ core = cc in other same)
]

taken_or_free_to : (racks : List ℕ) (c : List (Option ℕ)) (rack core n : ℕ) → IsTakenAt racks c rack core ⊎ ((at : ℕ) → at < n → rack_at racks at ≡ rack → core_in c at ≢ Some core)
taken_or_free_to racks c rack core zero = inr (λ at lt. absurd (omega arith))
taken_or_free_to racks c rack core (suc n) =
    elim (taken_or_free_to racks c rack core n) [
      | inl taken ↦ inl taken
      | inr free ↦ elim (cases_eq (rack_at racks n) rack) [
        | inr elsewhere ↦ inr (λ at lt is. elim (cases_eq at n) [
          | inl same ↦ absurd (elsewhere (ap (rack_at racks) (sym same) ∙ is))
          | inr other ↦ free at (omega arith) is
        ])
        | inl here ↦ elim (same_or_other (core_in c n) core) [
          | inl has ↦ inl (n, here, has)
          | inr lacks ↦ inr (λ at lt is. elim (cases_eq at n) [
            | inl same ↦ λ has. lacks (ap (core_in c) (sym same) ∙ has)
            | inr other ↦ free at (omega arith) is
          ])
        ]
      ]
    ]

pub taken_or_free : (racks : List ℕ) (c : List (Option ℕ)) (rack core : ℕ) → IsTakenAt racks c rack core ⊎ IsFreeAt racks c rack core
taken_or_free racks c rack core = elim (taken_or_free_to racks c rack core (length c)) [
  | inl taken ↦ inl taken
  | inr free ↦ inr (λ at is has. free at (named-within c at core has) is has)
]

-- of the edges that count, no two of a rack have one core
abbrev pub AreProper : (ℕ → Type 0) → List ℕ → List (Option ℕ) → Type 0
AreProper Counts racks c = (core k l : ℕ) → Counts k → Counts l → rack_at racks k ≡ rack_at racks l → core_in c k ≡ Some core → core_in c l ≡ Some core → k ≡ l

-- no two edges of a rack have one core
abbrev pub IsProper : List ℕ → List (Option ℕ) → Type 0
IsProper racks c = (core : ℕ) → HadOneEach racks c core

-- an edge takes a core that no other edge of its rack has
takes : (Counts : ℕ → Type 0) (racks : List ℕ) (c : List (Option ℕ)) (f y : ℕ) → f < length c → AreProper (λ k. Counts k × (k ≢ f)) racks c
    → ((at : ℕ) → Counts at → at ≢ f → rack_at racks at ≡ rack_at racks f → core_in c at ≢ Some y) → AreProper Counts racks (set c f (Some y))
takes Counts racks c f y within others free core k l k_counts l_counts same k_has l_has =
    let mine : (m : ℕ) → m ≡ f → core_in (set c f (Some y)) m ≡ Some core → Some core ≡ Some y = λ m here has.
    sym has ∙ (ap (core_in (set c f (Some y))) here ∙ get_or-set_same c f (Some y) None within) in
    let was : (m : ℕ) → m ≢ f → core_in (set c f (Some y)) m ≡ Some core → core_in c m ≡ Some core = λ m other has.
    sym (get_or-set_other c f m (Some y) None other) ∙ has in
    elim (cases_eq k f) [
      | inl k_here ↦ elim (cases_eq l f) [
        | inl l_here ↦ k_here ∙ sym l_here
        | inr l_other ↦ absurd (free l l_counts l_other (sym same ∙ ap (rack_at racks) k_here) (was l l_other l_has ∙ mine k k_here k_has))
      ]
      | inr k_other ↦ elim (cases_eq l f) [
        | inl l_here ↦ absurd (free k k_counts k_other (same ∙ ap (rack_at racks) l_here) (was k k_other k_has ∙ mine l l_here l_has))
        | inr l_other ↦ others core k l (k_counts, k_other) (l_counts, l_other) same (was k k_other k_has) (was l l_other l_has)
      ]
    ]

abbrev Any : ℕ → Type 0
Any k = Unit {0}

pub takes_free : (racks : List ℕ) (c : List (Option ℕ)) (f y : ℕ) → f < length c → IsProper racks c → IsFreeAt racks c (rack_at racks f) y → IsProper racks (set c f (Some y))
takes_free racks c f y within proper free core k l =
    takes Any racks c f y within (λ core' i j _ _. proper core' i j) (λ at _ _. free at) core k l tt tt

-- two edges of a rack exchange their cores
exchanged : (racks : List ℕ) (c : List (Option ℕ)) (f g x y : ℕ) → IsProper racks c → x ≢ y → core_in c f ≡ Some x → core_in c g ≡ Some y → rack_at racks g ≡ rack_at racks f
    → IsProper racks (set (set c f (Some y)) g (Some x))
exchanged racks c f g x y proper differ f_has g_has there core k l =
    let in_f : f < length c = named-within c f x f_has in
    let in_g : g < length c = named-within c g y g_has in
    takes Any racks (set c f (Some y)) g x (omega (arith, length-set c f (Some y)))
    (takes (λ m. Any m × (m ≢ g)) racks c f y in_f (λ core' i j _ _. proper core' i j)
    (λ at counts _ is has. counts.1 (proper y at g (is ∙ sym there) has g_has)))
    (λ at _ other is has. elim (cases_eq at f) [
      | inl same ↦
          let meet : Some y ≡ Some x = sym (get_or-set_same c f (Some y) None in_f) ∙ (ap (core_in (set c f (Some y))) (sym same) ∙ has) in
          let equal : x ≡ y = cc in
          differ equal
      | inr apart ↦ apart (proper x at f (is ∙ there) (sym (get_or-set_other c f at (Some y) None apart) ∙ has) f_has)
    ])
    core k l tt tt

-- the walk along the path: the edge f still has x at its far rack, and takes y, which it has at its near rack; it had x in
-- the beginning, and only edges of the path have changed their cores
pub record IsWalked (far near : List ℕ) (x y : ℕ) (c0 c : List (Option ℕ)) (f : ℕ) : Type 0 where
  pub far_side : IsProper far c
  pub near_side : IsProper near (set c f (Some y))
  pub now : core_in c f ≡ Some x
  pub before : core_in c0 f ≡ Some x
  pub turned : AreTurned x y c0 c

walk_on : (far near : List ℕ) (x y : ℕ) (c0 c : List (Option ℕ)) (f g : ℕ) → IsWalked far near x y c0 c f → x ≢ y → HadOneEach far c0 x → rack_at far g ≡ rack_at far f → core_in c g ≡ Some y
    → IsWalked near far y x c0 (set c f (Some y)) g
walk_on far near x y c0 c f g walked differ one there has =
    let other : g ≢ f = λ e. let meet : Some y ≡ Some x = sym has ∙ (ap (core_in c) e ∙ walked.now) in let equal : x ≡ y = cc in differ equal in
    record {
      far_side = walked.near_side;
      near_side = exchanged far c f g x y walked.far_side differ walked.now has there;
      now = get_or-set_other c f g (Some y) None other ∙ has;
      before = next_is_new far x y c c0 f g differ there walked.now has one walked.before (walked.turned.each g);
      turned = AreTurned-back x y c0 (set c f (Some y)) (AreTurned-more x y c0 c f walked.turned walked.before (named-within c f x walked.now));
    }

pub record AreExchanged (far near : List ℕ) (x y : ℕ) (c0 c : List (Option ℕ)) : Type 0 where
  pub far_side : IsProper far c
  pub near_side : IsProper near c
  pub turned : AreTurned x y c0 c

walk_ends : (far near : List ℕ) (x y : ℕ) (c0 c : List (Option ℕ)) (f : ℕ) → IsWalked far near x y c0 c f → IsFreeAt far c (rack_at far f) y → AreExchanged far near x y c0 (set c f (Some y))
walk_ends far near x y c0 c f walked free =
    let within : f < length c = named-within c f x walked.now in
    record {
      far_side = takes_free far c f y within walked.far_side free;
      near_side = walked.near_side;
      turned = AreTurned-more x y c0 c f walked.turned walked.before within;
    }

-- each step leaves one edge fewer where it was in the beginning, so the walk ends
pub walk : (most : ℕ) (far near : List ℕ) (x y : ℕ) (c0 c : List (Option ℕ)) (f : ℕ) → IsWalked far near x y c0 c f → x ≢ y → HadOneEach far c0 x → HadOneEach near c0 y → unmoved c c0 ≤ most
    → (c' : List (Option ℕ)) × AreExchanged far near x y c0 c'
walk zero far near x y c0 c f walked differ one_far one_near few = absurd (omega (arith, unmoved-set c c0 f x y walked.now walked.before differ))
walk (suc most) far near x y c0 c f walked differ one_far one_near few =
    elim (taken_or_free far c (rack_at far f) y) [
      | inl taken ↦
          let next = walk_on far near x y c0 c f taken.0 walked differ one_far taken.1 taken.2 in
          let fewer : unmoved (set c f (Some y)) c0 ≤ most = omega (arith, unmoved-set c c0 f x y walked.now walked.before differ) in
          let end = walk most near far y x c0 (set c f (Some y)) taken.0 next (λ e. differ (sym e)) one_near one_far fewer in
          (end.0, record { far_side = end.1.near_side; near_side = end.1.far_side; turned = AreTurned-back y x c0 end.0 end.1.turned })
      | inr free ↦ (set c f (Some y), walk_ends far near x y c0 c f walked free)
    ]
