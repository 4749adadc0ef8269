-- What is held at the racks of a side, as edges take cores, leave them and exchange them.
use Rattle.std.proofs.Common.{◌≡◌, ◌≢◌, ◌<◌, ◌+◌, ◌*◌, ℕ, zero, suc, List, [], ◌∷◌, ◌++◌, length, get_or, set, replicate, Option, Some, None, refl, sym, ap, ◌∙◌, subst, arith, inl, inr}
use Rattle.std.proofs.lemmas.Bool.{cases_eq}
use Rattle.std.proofs.lemmas.List.{get_or-set_same, get_or-set_other, get_or_past, set-set, set_comm, set_at, length_push, length-set}
use Rattle.edge_colouring.specs.Cores.{core_in}
use Rattle.edge_colouring.specs.Holders.{holder, with_holder, IsRackOf, HoldsColours}

-- the rack of an edge
abbrev pub rack_at : List ℕ → ℕ → ℕ
rack_at racks at = get_or racks at 0

-- an edge of a rack has this core
abbrev pub IsTakenAt : List ℕ → List (Option ℕ) → ℕ → ℕ → Type 0
IsTakenAt racks c rack core = (at : ℕ) × (rack_at racks at ≡ rack) × (core_in c at ≡ Some core)

pub get_or-no_holders : (n k : ℕ) → core_in (replicate n None) k ≡ None
get_or-no_holders zero k = refl
get_or-no_holders (suc n) zero = refl
get_or-no_holders (suc n) (suc k) = get_or-no_holders n k

-- an edge that has a core is one of the list
pub named-within : (c : List (Option ℕ)) (at core : ℕ) → core_in c at ≡ Some core → at < length c
named-within [] at core is = cc
named-within (o ∷ c) zero core is = omega arith
named-within (o ∷ c) (suc at) core is = let rest : at < length c = named-within c at core is in omega arith

same_core : (c : List (Option ℕ)) (f g x y : ℕ) → f ≡ g → core_in c f ≡ Some x → core_in c g ≡ Some y → x ≡ y
same_core c f g x y same p q = let e : core_in c f ≡ core_in c g = ap (core_in c) same in cc

pub Holds-none : (racks : List ℕ) (n : ℕ) → HoldsColours racks [] (replicate n None)
Holds-none racks n = record {
  held = λ at core lt is. cc;
  holds = λ rack core at lt is. let none : get_or (replicate n None) (rack * 64 + core) None ≡ None = get_or-no_holders n (rack * 64 + core) in cc;
}

-- an edge without a core takes one that is free at its rack
pub Holds-put : (racks : List ℕ) (c H : List (Option ℕ)) (f y : ℕ) → HoldsColours racks c H → f < length c → core_in c f ≡ None → y < 64 → IsRackOf H (rack_at racks f) → holder H (rack_at racks f) y ≡ None
    → HoldsColours racks (set c f (Some y)) (with_holder H (rack_at racks f) y (Some f))
Holds-put racks c H f y old in_c none small room free =
    let t : ℕ = rack_at racks f in
    let q : ℕ = t * 64 + y in
    let in_H : q < length H = omega arith in
    record {
      held = λ at core lt is. elim (cases_eq at f) [
        | inl same ↦
            let named : Some y ≡ Some core = sym (get_or-set_same c f (Some y) None in_c) ∙ (ap (core_in (set c f (Some y))) (sym same) ∙ is) in
            let core_is : core ≡ y = cc in
            let rack_is : rack_at racks at ≡ t = ap (rack_at racks) same in
            let here : rack_at racks at * 64 + core ≡ q = omega arith in
            ap (λ (p : ℕ). get_or (set H q (Some f)) p None) here ∙ (get_or-set_same H q (Some f) None in_H ∙ ap (λ (k : ℕ). Some k) (sym same))
        | inr other ↦
            let named : core_in c at ≡ Some core = sym (get_or-set_other c f at (Some y) None other) ∙ is in
            let was : get_or H (rack_at racks at * 64 + core) None ≡ Some at = old.held at core lt named in
            let apart : rack_at racks at * 64 + core ≢ q = λ e. let here : get_or H (rack_at racks at * 64 + core) None ≡ get_or H q None = ap (λ (p : ℕ). get_or H p None) e in cc in
            get_or-set_other H q (rack_at racks at * 64 + core) (Some f) None apart ∙ was
      ];
      holds = λ rack core at lt is. elim (cases_eq (rack * 64 + core) q) [
        | inl here ↦
            let stood : Some f ≡ Some at = sym (get_or-set_same H q (Some f) None in_H) ∙ (ap (λ (p : ℕ). get_or (set H q (Some f)) p None) (sym here) ∙ is) in
            let same : f ≡ at = cc in
            let core_is : y ≡ core = omega arith in
            let rack_is : t ≡ rack = omega arith in (
              ap (rack_at racks) (sym same) ∙ rack_is,
              ap (core_in (set c f (Some y))) (sym same) ∙ (get_or-set_same c f (Some y) None in_c ∙ ap (λ (k : ℕ). Some k) core_is),
            )
        | inr there ↦
            let was = old.holds rack core at lt (sym (get_or-set_other H q (rack * 64 + core) (Some f) None there) ∙ is) in
            let other : at ≢ f = λ e. let same : core_in c at ≡ core_in c f = ap (core_in c) e in let named : core_in c at ≡ Some core = was.1 in cc in
            (was.0, get_or-set_other c f at (Some y) None other ∙ was.1)
      ];
    }

-- an edge leaves its core
pub Holds-remove : (racks : List ℕ) (c H : List (Option ℕ)) (f x : ℕ) → HoldsColours racks c H → core_in c f ≡ Some x → x < 64 → IsRackOf H (rack_at racks f)
    → HoldsColours racks (set c f None) (with_holder H (rack_at racks f) x None)
Holds-remove racks c H f x old named small room =
    let t : ℕ = rack_at racks f in
    let q : ℕ = t * 64 + x in
    let in_H : q < length H = omega arith in
    let in_c : f < length c = named-within c f x named in
    let at_q : get_or H q None ≡ Some f = old.held f x small named in
    record {
      held = λ at core lt is. elim (cases_eq at f) [
        | inl same ↦ let none : None ≡ Some core = sym (get_or-set_same c f None None in_c) ∙ (ap (core_in (set c f None)) (sym same) ∙ is) in cc
        | inr other ↦
            let has : core_in c at ≡ Some core = sym (get_or-set_other c f at None None other) ∙ is in
            let was : get_or H (rack_at racks at * 64 + core) None ≡ Some at = old.held at core lt has in
            let apart : rack_at racks at * 64 + core ≢ q = λ e. let here : get_or H (rack_at racks at * 64 + core) None ≡ get_or H q None = ap (λ (p : ℕ). get_or H p None) e in let same : at ≡ f = cc in other same in
            get_or-set_other H q (rack_at racks at * 64 + core) None None apart ∙ was
      ];
      holds = λ rack core at lt is. elim (cases_eq (rack * 64 + core) q) [
        | inl here ↦ let none : None ≡ Some at = sym (get_or-set_same H q None None in_H) ∙ (ap (λ (p : ℕ). get_or (set H q None) p None) (sym here) ∙ is) in cc
        | inr there ↦
            let was = old.holds rack core at lt (sym (get_or-set_other H q (rack * 64 + core) None None there) ∙ is) in
            let other : at ≢ f = λ e. let rack_is : rack_at racks at ≡ t = ap (rack_at racks) e in let core_is : core ≡ x = same_core c at f core x e was.1 named in there (omega (arith, was.0)) in
            (was.0, get_or-set_other c f at None None other ∙ was.1)
      ];
    }

-- an edge goes over to a core that is free at its rack
pub Holds-moved : (racks : List ℕ) (c H : List (Option ℕ)) (f x y : ℕ) → HoldsColours racks c H → core_in c f ≡ Some x → x < 64 → y < 64 → x ≢ y → IsRackOf H (rack_at racks f) → holder H (rack_at racks f) y ≡ None
    → HoldsColours racks (set c f (Some y)) (with_holder (with_holder H (rack_at racks f) y (Some f)) (rack_at racks f) x None)
Holds-moved racks c H f x y old named small_x small_y differ room free =
    let t : ℕ = rack_at racks f in
    let px : ℕ = t * 64 + x in
    let py : ℕ = t * 64 + y in
    let in_c : f < length c = named-within c f x named in
    let apart : py ≢ px = λ e. differ (omega arith) in
    let left : HoldsColours racks (set c f None) (set H px None) = Holds-remove racks c H f x old named small_x room in
    let moved : HoldsColours racks (set (set c f None) f (Some y)) (set (set H px None) py (Some f)) =
    Holds-put racks (set c f None) (set H px None) f y left (omega (arith, length-set c f None)) (get_or-set_same c f None None in_c) small_y (omega (arith, length-set H px None))
    (get_or-set_other H px py None None apart ∙ free) in
    let colours : set (set c f None) f (Some y) ≡ set c f (Some y) = set-set c f None (Some y) in
    let holders : set (set H px None) py (Some f) ≡ set (set H py (Some f)) px None = set_comm H px py None (Some f) (λ e. apart (sym e)) in
    subst (λ h. HoldsColours racks (set c f (Some y)) h) holders (subst (λ k. HoldsColours racks k (set (set H px None) py (Some f))) colours moved)

-- two edges of a rack exchange their cores
pub Holds-exchanged : (racks : List ℕ) (c H : List (Option ℕ)) (f g x y : ℕ) → HoldsColours racks c H → core_in c f ≡ Some x → x < 64 → y < 64 → x ≢ y → IsRackOf H (rack_at racks f) → holder H (rack_at racks f) y ≡ Some g
    → HoldsColours racks (set (set c f (Some y)) g (Some x)) (with_holder (with_holder H (rack_at racks f) y (Some f)) (rack_at racks f) x (Some g))
Holds-exchanged racks c H f g x y old named small_x small_y differ room taken =
    let t : ℕ = rack_at racks f in
    let px : ℕ = t * 64 + x in
    let py : ℕ = t * 64 + y in
    let none : Option ℕ = None in
    let there = old.holds t y g small_y taken in
    let rack_is : rack_at racks g ≡ t = there.0 in
    let other : f ≢ g = λ e. differ (same_core c f g x y e named there.1) in
    let in_c : f < length c = named-within c f x named in
    let g_in_c : g < length c = named-within c g y there.1 in
    let apart : py ≢ px = λ e. differ (omega arith) in
    let c1 : List (Option ℕ) = set c f None in
    let Ha : List (Option ℕ) = set H px None in
    let c2 : List (Option ℕ) = set c1 g None in
    let Hb : List (Option ℕ) = set Ha py None in
    let c3 : List (Option ℕ) = set c2 f (Some y) in
    let Hc : List (Option ℕ) = set Hb py (Some f) in
    let room1 : IsRackOf Ha t = omega (arith, length-set H px none) in
    let room2 : IsRackOf Hb t = omega (arith, length-set Ha py none) in
    let room3 : IsRackOf Hc t = omega (arith, length-set Hb py (Some f)) in
    let one : HoldsColours racks c1 Ha = Holds-remove racks c H f x old named small_x room in
    let two : HoldsColours racks c2 (set Ha (rack_at racks g * 64 + y) None) =
    Holds-remove racks c1 Ha g y one (get_or-set_other c f g None None (λ e. other (sym e)) ∙ there.1) small_y (omega (arith, rack_is, room1)) in
    let two' : HoldsColours racks c2 Hb = subst (λ r. HoldsColours racks c2 (set Ha (r * 64 + y) None)) rack_is two in
    let three : HoldsColours racks c3 Hc =
    Holds-put racks c2 Hb f y two' (omega (arith, length-set c1 g none, length-set c f none))
    (get_or-set_other c1 g f None None other ∙ get_or-set_same c f None None in_c) small_y room2
    (get_or-set_same Ha py None None (omega (arith, room1))) in
    let free : holder Hc (rack_at racks g) x ≡ None =
    ap (λ (r : ℕ). holder Hc r x) rack_is
    ∙ (get_or-set_other Hb py px (Some f) None (λ e. apart (sym e))
    ∙ (get_or-set_other Ha py px None None (λ e. apart (sym e)) ∙ get_or-set_same H px None None (omega arith))) in
    let four : HoldsColours racks (set c3 g (Some x)) (set Hc (rack_at racks g * 64 + x) (Some g)) =
    Holds-put racks c3 Hc g x three (omega (arith, length-set c2 f (Some y), length-set c1 g none, length-set c f none))
    (get_or-set_other c2 f g (Some y) None (λ e. other (sym e)) ∙ get_or-set_same c1 g None None (omega (arith, length-set c f none))) small_x (omega (arith, rack_is, room3)) free in
    let four' : HoldsColours racks (set c3 g (Some x)) (set Hc px (Some g)) = subst (λ r. HoldsColours racks (set c3 g (Some x)) (set Hc (r * 64 + x) (Some g))) rack_is four in
    let colours : set c3 g (Some x) ≡ set (set c f (Some y)) g (Some x) =
    ap (λ (k : List (Option ℕ)). set k g (Some x)) (set_comm c1 g f none (Some y) (λ e. other (sym e)))
    ∙ (set-set (set c1 f (Some y)) g none (Some x)
    ∙ ap (λ (k : List (Option ℕ)). set k g (Some x)) (set-set c f none (Some y))) in
    let holders : set Hc px (Some g) ≡ set (set H py (Some f)) px (Some g) =
    ap (λ (k : List (Option ℕ)). set k px (Some g)) (set-set Ha py none (Some f))
    ∙ (ap (λ (k : List (Option ℕ)). set k px (Some g)) (set_comm H px py none (Some f) (λ e. apart (sym e)))
    ∙ set-set (set H py (Some f)) px none (Some g)) in
    subst (λ h. HoldsColours racks (set (set c f (Some y)) g (Some x)) h) holders (subst (λ k. HoldsColours racks k (set Hc px (Some g))) colours four')

-- no two edges of a rack have one core
pub one_holder : (racks : List ℕ) (c H : List (Option ℕ)) (f g x : ℕ) → HoldsColours racks c H → x < 64 → rack_at racks f ≡ rack_at racks g → core_in c f ≡ Some x → core_in c g ≡ Some x → f ≡ g
one_holder racks c H f g x old small same f_has g_has =
    let at_f : holder H (rack_at racks f) x ≡ Some f = old.held f x small f_has in
    let at_g : holder H (rack_at racks g) x ≡ Some g = old.held g x small g_has in
    let meet : holder H (rack_at racks f) x ≡ holder H (rack_at racks g) x = ap (λ (r : ℕ). holder H r x) same in
    cc

pub core_in_push : (c : List (Option ℕ)) (at : ℕ) → core_in (c ++ None ∷ []) at ≡ core_in c at
core_in_push [] zero = refl
core_in_push [] (suc at) = refl
core_in_push (o ∷ c) zero = refl
core_in_push (o ∷ c) (suc at) = core_in_push c at

-- the next edge takes a core that is free at its rack
pub Holds-push : (racks : List ℕ) (c H : List (Option ℕ)) (n y : ℕ) → HoldsColours racks c H → length c ≡ n → y < 64 → IsRackOf H (rack_at racks n) → holder H (rack_at racks n) y ≡ None
    → HoldsColours racks (c ++ Some y ∷ []) (with_holder H (rack_at racks n) y (Some n))
Holds-push racks c H n y old count small room free =
    let none : Option ℕ = None in
    let waits : List (Option ℕ) = c ++ none ∷ [] in
    let waiting : HoldsColours racks waits H = record {
      held = λ at core lt is. old.held at core lt (sym (core_in_push c at) ∙ is);
      holds = λ rack core at lt is. let was = old.holds rack core at lt is in (was.0, core_in_push c at ∙ was.1);
    } in
    let last : core_in waits n ≡ None = core_in_push c n ∙ get_or_past c n None (omega arith) in
    let put : HoldsColours racks (set waits n (Some y)) (with_holder H (rack_at racks n) y (Some n)) =
    Holds-put racks waits H n y waiting (omega (arith, length_push c none)) last small room free in
    subst (λ k. HoldsColours racks k (with_holder H (rack_at racks n) y (Some n))) (set_at c none [] (Some y) n count) put
