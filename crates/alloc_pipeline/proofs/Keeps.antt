-- Each step of an edge keeps its rule.
use Rattle.std.proofs.Common.{◌≡◌, ℕ, zero, suc, ◌+◌, Bool, true, false, List, [], ◌∷◌, ◌++◌, map, length, set, Some, sym, refl, ap, ◌∙◌, subst, ◌⊎◌, inl, inr, ⊎_elim, arith, add-one}
use Rattle.std.proofs.lemmas.Option.{slice_get_within}
use Rattle.std.proofs.lemmas.List.{map-append}
use mathlib.Core.Option.{some, some-ne-none, some-injective}
use lib.ListN.{get_elem?}
use Rattle.crossbeam_queue.specs.Fifo.{Pushes, Pops, Forks, Merges, Learns}
use Rattle.crossbeam_queue.proofs.Lists.{at_set}
use Rattle.slot_batches.specs.declared.piece.Piece.{Piece}
use Rattle.slot_batches.specs.Pieces.{Part, part_of}
use Rattle.ring_core.specs.Streams.{IsPieceAt, edge_stream}
use Rattle.ring_core.specs.Edges.{between}
use Rattle.ring_core.proofs.EdgeLemmas.{between_more, between_first}
use Rattle.alloc_pipeline.specs.declared.parcel.Kind.TheVariants.{Whole, Giving, Taking, Spent}
use Rattle.alloc_pipeline.specs.declared.parcel.Mark.{Mark}
use Rattle.alloc_pipeline.specs.declared.parcel.Parcel.{Parcel}
use Rattle.alloc_pipeline.specs.declared.parcel.Parcel.TheVariants.{Start as StartOf, Part as PartOf}
use Rattle.alloc_pipeline.specs.declared.parcel.View.{View}
use Rattle.alloc_pipeline.specs.declared.parcel.EdgeWindow.{EdgeWindow}
use Rattle.alloc_pipeline.specs.Rules.{no_window, named_by, into_of, whole, giving, taking, spent, part_in, EdgeIsAtRest, ViewsRest, ViewsRun, Kept}
use Rattle.alloc_pipeline.specs.Steps.{Marked, Unmarked, Given, Taken, HeldThen, LeftThen}
use Rattle.alloc_pipeline.proofs.Parcels.{between_none, map_none, map_first, piece_in}

kind_of : {v w : View} → v ≡ w → v.kind ≡ w.kind
kind_of e = ap (λ (y : View). y.kind) e

-- the case of the rule that a pass of each kind stands in
rest_of : (items : List Parcel) (views : List View) (port : ℕ) (v : View) → v.kind ≡ Whole → Kept items views → get_elem? views port ≡ some v
    → (r : ViewsRest items views) × (port ≡ r.holder) × (v ≡ whole r.marked r.window r.moved)
rest_of items views port v is h at =
    ⊎_elim (λ (r : ViewsRest items views). ⊎_elim (λ gone. absurd cc) (λ here. (r, here.0, here.1)) (r.others port v at))
    (λ (r : ViewsRun items views). ⊎_elim (λ gone. absurd cc) (λ here. ⊎_elim (λ g. let k = kind_of g.1 in absurd cc) (λ t. let k = kind_of t.1 in absurd cc) here) (r.others port v at)) h

giver_of : (items : List Parcel) (views : List View) (port : ℕ) (v : View) → v.kind ≡ Giving → Kept items views → get_elem? views port ≡ some v
    → (r : ViewsRun items views) × (port ≡ r.giver) × (v ≡ giving r.window r.sent r.moved)
giver_of items views port v is h at =
    ⊎_elim (λ (r : ViewsRest items views). ⊎_elim (λ gone. absurd cc) (λ here. let k = kind_of here.1 in absurd cc) (r.others port v at))
    (λ (r : ViewsRun items views). ⊎_elim (λ gone. absurd cc) (λ here. ⊎_elim (λ g. (r, g.0, g.1)) (λ t. let k = kind_of t.1 in absurd cc) here) (r.others port v at)) h

taker_of : (items : List Parcel) (views : List View) (port : ℕ) (v : View) → v.kind ≡ Taking → Kept items views → get_elem? views port ≡ some v
    → (r : ViewsRun items views) × (port ≡ r.taker) × (v ≡ taking r.window r.taken)
taker_of items views port v is h at =
    ⊎_elim (λ (r : ViewsRest items views). ⊎_elim (λ gone. absurd cc) (λ here. let k = kind_of here.1 in absurd cc) (r.others port v at))
    (λ (r : ViewsRun items views). ⊎_elim (λ gone. absurd cc) (λ here. ⊎_elim (λ g. let k = kind_of g.1 in absurd cc) (λ t. (r, t.0, t.1)) here) (r.others port v at)) h

at_rest : (b : Bool) (w : EdgeWindow) (items : List Parcel) → b ≡ false → EdgeIsAtRest b w items → items ≡ []
at_rest true w items e h = absurd cc
at_rest false w items e h = h

at_mark : (b : Bool) (w : EdgeWindow) (items : List Parcel) → b ≡ true → EdgeIsAtRest b w items → (mark : Mark) × (named_by mark ≡ w) × (items ≡ StartOf mark ∷ [])
at_mark true w items e h = h
at_mark false w items e h = absurd cc

-- who has a view after the whole one changed
rest_set : (items : List Parcel) (views : List View) (r : ViewsRest items views) (port : ℕ) (w : View) → port ≡ r.holder
    → (j : ℕ) (u : View) → get_elem? (set views port w) j ≡ some u → (u.kind ≡ Spent) ⊎ ((j ≡ port) × (u ≡ w))
rest_set items views r port w here j u e =
    ⊎_elim (λ a. inr (a.0, sym a.1)) (λ b. ⊎_elim (λ gone. inl gone) (λ x. absurd (b.0 (x.0 ∙ sym here))) (r.others j u b.1)) (at_set views port j w u e)

-- kind 1
pub begins : Kept [] (whole false no_window 0 ∷ [])
begins = inl (record {
  holder = 0;
  marked = false;
  window = no_window;
  moved = 0;
  holds = refl;
  others = only;
}) where
  only : (port : ℕ) (v : View) → get_elem? (whole false no_window 0 ∷ []) port ≡ some v → (v.kind ≡ Spent) ⊎ ((port ≡ 0) × (v ≡ whole false no_window 0))
  only zero v e = inr (refl, sym (some-injective (whole false no_window 0) v e))
  only (suc port) v e = absurd (some-ne-none v (sym e))

-- what stands in a list with one more at the end
at_end : (l : List View) (a : View) (j : ℕ) (b : View) → get_elem? (l ++ a ∷ []) j ≡ some b → ((get_elem? l j ≡ some b) × Unit {0}) ⊎ ((j ≡ length l) × (a ≡ b))
at_end [] a zero b e = inr (refl, some-injective a b e)
at_end [] a (suc j) b e = absurd (some-ne-none b (sym e))
at_end (x ∷ xs) a zero b e = inl (e, tt)
at_end (x ∷ xs) a (suc j) b e = ⊎_elim (λ y. inl y) (λ y. inr (ap suc y.0, y.1)) (at_end xs a j b e)

-- kind 2
pub marks : (n port : ℕ) (v : View) (x : Parcel) (m : Mark) → v.kind ≡ Whole → v.marked ≡ false → x ≡ StartOf m → Pushes Kept n port v x (Marked v x)
marks n port v x m is bare start items views room h at =
    let f = rest_of items views port v is h at in
    let r = f.0 in
    let w : View = whole true (named_by m) v.moved in
    let b : r.marked ≡ false = ap (λ (y : View). y.marked) (sym f.2) ∙ bare in
    let none : items ≡ [] = at_rest r.marked r.window items b r.holds in (
      w,
      inl (record {
        holder = port;
        marked = true;
        window = named_by m;
        moved = v.moved;
        holds = (m, refl, ap (λ l. l ++ x ∷ []) none ∙ ap (λ y. y ∷ []) start);
        others = rest_set items views r port w f.1;
      }),
      (m, start, refl),
    )

-- kind 3
pub unmarks : (port : ℕ) (v : View) → v.kind ≡ Whole → v.marked ≡ true → Pops Kept port v (Unmarked v)
unmarks port v is marked x items views h at =
    let f = rest_of (x ∷ items) views port v is h at in
    let r = f.0 in
    let w : View = whole false v.window v.moved in
    let b : r.marked ≡ true = ap (λ (y : View). y.marked) (sym f.2) ∙ marked in
    let m = at_mark r.marked r.window (x ∷ items) b r.holds in
    let none : items ≡ [] = let e : x ∷ items ≡ StartOf m.0 ∷ [] = m.2 in cc in (
      w,
      inl (record {
        holder = port;
        marked = false;
        window = v.window;
        moved = v.moved;
        holds = none;
        others = rest_set (x ∷ items) views r port w f.1;
      }),
      refl,
    )

-- kind 4
pub opens : (port : ℕ) (v : View) → v.kind ≡ Whole → v.marked ≡ false → Forks Kept port v (giving v.window 0 v.moved) (taking v.window 0)
opens port v is bare items views h at =
    let f = rest_of items views port v is h at in
    let r = f.0 in
    let g : View = giving v.window 0 v.moved in
    let t : View = taking v.window 0 in
    let vs : List View = set views port g in
    let b : r.marked ≡ false = ap (λ (y : View). y.marked) (sym f.2) ∙ bare in
    let none : items ≡ [] = at_rest r.marked r.window items b r.holds in
    let old = rest_set items views r port g f.1 in
    inr (record {
      giver = port;
      taker = length vs;
      window = v.window;
      taken = 0;
      sent = 0;
      moved = v.moved;
      order = omega arith;
      within = omega arith;
      holds = ap (map part_in) none ∙ ap (map Some) (sym (between_none 0 (edge_stream (into_of v.window))));
      others = λ j u e. ⊎_elim (λ x. ⊎_elim (λ gone. inl gone) (λ y. inr (inl y)) (old j u x.0)) (λ x. inr (inr (x.0, sym x.1))) (at_end vs t j u e);
    })

-- kind 5
pub gives : (n port : ℕ) (v : View) (x : Parcel) (p : Piece) → v.kind ≡ Giving → x ≡ PartOf p → IsPieceAt (into_of v.window) v.position p → Pushes Kept n port v x (Given v x)
gives n port v x p is wraps next items views room h at =
    let f = giver_of items views port v is h at in
    let r = f.0 in
    let s : List Part = edge_stream (into_of r.window) in
    let w : View = giving r.window (suc r.sent) r.moved in
    let here : IsPieceAt (into_of r.window) r.sent p = subst (λ (y : View). IsPieceAt (into_of y.window) y.position p) f.2 next in
    let more : between r.taken (suc r.sent) s ≡ between r.taken r.sent s ++ part_of p ∷ [] = between_more r.taken r.sent s (part_of p) r.order here in
    let short = slice_get_within s r.sent (part_of p) here in (
      w,
      inr (record {
        giver = port;
        taker = r.taker;
        window = r.window;
        taken = r.taken;
        sent = suc r.sent;
        moved = r.moved;
        order = omega (arith, r.order);
        within = omega (arith, short);
        holds = map-append part_in items (x ∷ [])
            ∙ ((λ i. r.holds i ++ ap part_in wraps i ∷ [])
            ∙ (sym (map-append Some (between r.taken r.sent s) (part_of p ∷ [])) ∙ ap (map Some) (sym more)));
        others = λ j u e. ⊎_elim (λ a. inr (inl (a.0, sym a.1)))
            (λ b. ⊎_elim (λ gone. inl gone) (λ o. ⊎_elim (λ g. absurd (b.0 (g.0 ∙ sym f.1))) (λ t. inr (inr t)) o) (r.others j u b.1)) (at_set views port j w u e);
      }),
      ap (λ (y : View). giving y.window (suc y.position) y.moved) (sym f.2) ∙ rw add-one refl,
    )

-- kind 7
pub takes : (port : ℕ) (v : View) → v.kind ≡ Taking → Pops Kept port v (Taken v)
takes port v is x items views h at =
    let f = taker_of (x ∷ items) views port v is h at in
    let r = f.0 in
    let s : List Part = edge_stream (into_of r.window) in
    let w : View = taking r.window (suc r.taken) in
    let q = map_first Some (between r.taken r.sent s) (part_in x) (map part_in items) r.holds in
    let part : Part = q.0 in
    let p = piece_in x part q.3 in
    let less = between_first r.taken r.sent s q.1 part q.2 in
    let here : IsPieceAt (into_of v.window) v.position p.0 =
    subst (λ (y : View). IsPieceAt (into_of y.window) y.position p.0) (sym f.2) (less.1 ∙ ap Some (sym p.2)) in (
      w,
      inr (record {
        giver = r.giver;
        taker = port;
        window = r.window;
        taken = suc r.taken;
        sent = r.sent;
        moved = r.moved;
        order = omega (arith, less.0);
        within = r.within;
        holds = q.4 ∙ ap (map Some) (sym less.2);
        others = λ j u e. ⊎_elim (λ a. inr (inr (a.0, sym a.1)))
            (λ b. ⊎_elim (λ gone. inl gone) (λ o. ⊎_elim (λ g. inr (inl g)) (λ t. absurd (b.0 (t.0 ∙ sym f.1))) o) (r.others j u b.1)) (at_set views port j w u e);
      }),
      (p.0, p.1, here, ap (λ (y : View). taking y.window (suc y.position)) (sym f.2) ∙ rw add-one refl),
    )

-- kinds 6 and 8
pub learns_held : (port : ℕ) (v : View) → v.kind ≡ Giving → Learns Kept port v (HeldThen v)
learns_held port v is items views h at =
    let f = giver_of items views port v is h at in
    let r = f.0 in
    subst (λ (y : View). HeldThen y items) (sym f.2) (r.taken, r.order, r.within, r.holds)

pub learns_left : (port : ℕ) (v : View) → v.kind ≡ Taking → Learns Kept port v (LeftThen v)
learns_left port v is items views h at =
    let f = taker_of items views port v is h at in
    let r = f.0 in
    subst (λ (y : View). LeftThen y items) (sym f.2) (r.sent, r.order, r.within, r.holds)

-- kind 9
pub merges : (port : ℕ) (v : View) (other : ℕ) (u : View) → v.kind ≡ Giving → u.kind ≡ Taking → v.position ≡ u.position
    → Merges Kept port v other u (whole false v.window (v.moved + v.position)) spent
merges port v other u gives_ takes_ same items views h at apart at' =
    let f = giver_of items views port v gives_ h at in
    let r = f.0 in
    let s : List Part = edge_stream (into_of r.window) in
    let both : View = whole false v.window (v.moved + v.position) in
    let vs : List View = set views port both in
    let was : get_elem? views other ≡ some u = ⊎_elim (λ x. absurd (apart x.0)) (λ x. x.1) (at_set views port other both u at') in
    let theirs : (other ≡ r.taker) × (u ≡ taking r.window r.taken) =
    ⊎_elim (λ gone. absurd cc) (λ o. ⊎_elim (λ g. let k = kind_of g.1 in absurd cc) (λ t. t) o) (r.others other u was) in
    let even : r.sent ≡ r.taken = ap (λ (y : View). y.position) (sym f.2) ∙ same ∙ ap (λ (y : View). y.position) theirs.1 in
    let none : items ≡ [] = map_none part_in items (r.holds ∙ ap (λ k. map Some (between r.taken k s)) even ∙ ap (map Some) (between_none r.taken s)) in
    inl (record {
      holder = port;
      marked = false;
      window = v.window;
      moved = v.moved + v.position;
      holds = none;
      others = λ j y e. ⊎_elim (λ a. inl (kind_of (sym a.1)))
          (λ b. ⊎_elim (λ c. inr (c.0, sym c.1))
          (λ d. ⊎_elim (λ gone. inl gone) (λ o. ⊎_elim (λ g. absurd (d.0 (g.0 ∙ sym f.1))) (λ t. absurd (b.0 (t.0 ∙ sym theirs.0))) o) (r.others j y d.1))
          (at_set views port j both y b.1)) (at_set vs other j spent y e);
    })

-- that the start mark is never refused
pub learns_bare : (port : ℕ) (v : View) → v.kind ≡ Whole → v.marked ≡ false → Learns Kept port v (λ items. items ≡ [])
learns_bare port v is bare items views h at =
    let f = rest_of items views port v is h at in
    let r = f.0 in
    at_rest r.marked r.window items (ap (λ (y : View). y.marked) (sym f.2) ∙ bare) r.holds

pub learns_marked : (port : ℕ) (v : View) → v.kind ≡ Whole → v.marked ≡ true → Learns Kept port v (λ items. length items ≡ 1)
learns_marked port v is marked items views h at =
    let f = rest_of items views port v is h at in
    let r = f.0 in
    ap length (at_mark r.marked r.window items (ap (λ (y : View). y.marked) (sym f.2) ∙ marked) r.holds).2
