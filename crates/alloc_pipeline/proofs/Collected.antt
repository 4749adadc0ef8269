-- The players once the last list was taken.
use Rattle.std.proofs.Common.{◌≡◌, ℕ, zero, suc, ◌+◌, ◌<◌, List, [], ◌∷◌, ◌++◌, length, set, get_or, Option, sym, ap, ◌∙◌, subst, refl, arith, length-append}
use Rattle.std.proofs.lemmas.List.{length-set}
use Rattle.std.proofs.lemmas.Nat.{mod_below}
use Rattle.crossbeam_queue.specs.Passes.{Pass, view, IsPassOf}
use Rattle.crossbeam_queue.specs.declared.array_queue.Doing.{Doing}
use Rattle.crossbeam_queue.specs.declared.array_queue.Slotted.{Slotted}
use Rattle.ring_core.specs.States.{WorkerState}
use Rattle.ring_core.specs.Windows.{worker_of, worker_after}
use Rattle.ring_core.specs.Streams.{edge_stream}
use Rattle.ring_core.specs.Workers.{HasEnded}
use Rattle.ring_core.proofs.StreamLemmas.{after_last}
use Rattle.alloc_pipeline.specs.declared.parcel.EdgeWindow.{EdgeWindow}
use Rattle.alloc_pipeline.specs.declared.parcel.Kind.TheVariants.{Taking}
use Rattle.alloc_pipeline.specs.declared.parcel.Parcel.{Parcel}
use Rattle.alloc_pipeline.specs.declared.parcel.View.{View}
use Rattle.alloc_pipeline.specs.declared.player.Player.{Player}
use Rattle.alloc_pipeline.specs.Rules.{into_of}
use Rattle.alloc_pipeline.specs.Rings.{IsLinked, AllLinked, AllEnded}
use Rattle.alloc_pipeline.specs.Joined.{givings, takings, crew_of, last_pass, early_of, turned_passes, turned, AllEven, AllJoined, IsInPlace, AllInPlace, HasGiven, HasTaken, IsDrained, AllDrained, AllRaised}
use Rattle.alloc_pipeline.proofs.Rejoining.{givings_last, crew_last}
use Rattle.alloc_pipeline.proofs.Drained.{given, drained, even_chain, raised_chain}

last_snoc : (a g : Pass Parcel View) (gs : List (Pass Parcel View)) → last_pass a (gs ++ g ∷ []) ≡ g
last_snoc a g [] = refl
last_snoc a g (b ∷ gs) = last_snoc b g gs

early_snoc : (a g : Pass Parcel View) (gs : List (Pass Parcel View)) → early_of a (gs ++ g ∷ []) ≡ a ∷ gs
early_snoc a g [] = refl
early_snoc a g (b ∷ gs) = ap (λ (zs : List (Pass Parcel View)). a ∷ zs) (early_snoc b g gs)

turn_snoc : (g : Pass Parcel View) (gs : List (Pass Parcel View)) → turned_passes (gs ++ g ∷ []) ≡ g ∷ gs
turn_snoc g [] = refl
turn_snoc g (a ∷ gs) = λ i. last_snoc a g gs i ∷ early_snoc a g gs i

set_givings : (ss : List Player) (j : ℕ) (s r : Player) → s ≡ get_or ss j s → r.giving ≡ s.giving → givings (set ss j r) ≡ givings ss
set_givings [] j s r is same = refl
set_givings (x ∷ xs) zero s r is same = λ i. (same ∙ ap (λ (t : Player). t.giving) is) i ∷ givings xs
set_givings (x ∷ xs) (suc j) s r is same = ap (λ (zs : List (Pass Parcel View)). x.giving ∷ zs) (set_givings xs j s r is same)

set_crew : (ss : List Player) (j : ℕ) (s r : Player) → s ≡ get_or ss j s → r.worker ≡ s.worker → crew_of (set ss j r) ≡ crew_of ss
set_crew [] j s r is same = refl
set_crew (x ∷ xs) zero s r is same = λ i. (same ∙ ap (λ (t : Player). t.worker) is) i ∷ crew_of xs
set_crew (x ∷ xs) (suc j) s r is same = ap (λ (zs : List WorkerState). x.worker ∷ zs) (set_crew xs j s r is same)

pub turned_last : (xs : List Player) (x : Player) → turned (xs ++ x ∷ []) ≡ x.giving ∷ givings xs
turned_last xs x = ap turned_passes (givings_last xs x) ∙ turn_snoc x.giving (givings xs)

-- the same passes, and the same workers
pub same_turned : (ss xs : List Player) (x : Player) (j : ℕ) (s r : Player) → s ≡ get_or ss j s → r.giving ≡ s.giving → set ss j r ≡ xs ++ x ∷ [] → turned ss ≡ x.giving ∷ givings xs
same_turned ss xs x j s r is same e = ap turned_passes (sym (set_givings ss j s r is same) ∙ ap givings e) ∙ turned_last xs x

pub same_crew : (ss xs : List Player) (x : Player) (j : ℕ) (s r : Player) (some out : List WorkerState) → s ≡ get_or ss j s → r.worker ≡ s.worker → set ss j r ≡ xs ++ x ∷ []
    → some ≡ crew_of xs → out ≡ some ++ x.worker ∷ [] → out ≡ crew_of ss
same_crew ss xs x j s r some out is same e h o = o ∙ (ap (λ (ws : List WorkerState). ws ++ x.worker ∷ []) h ∙ (sym (ap crew_of e ∙ crew_last xs x) ∙ set_crew ss j s r is same))

module _ {Q A : Type 0} (queues : List (Slotted (Option Parcel) (Doing Parcel View) Q A)) (w : EdgeWindow) (count : length queues ≡ w.workers) where
  pub at_place : (k : ℕ) (ss : List Player) → AllInPlace w k ss → AllLinked queues w.batches ss → AllEnded w.batches ss → (j : ℕ) (s : Player) → s ≡ get_or ss j s → j < length ss
      → IsInPlace w (k + j) s × IsLinked queues w.batches s × HasEnded w.batches s.worker
  at_place k [] p q e j s is below = absurd (omega arith)
  at_place k (x ∷ xs) p q e zero s is below =
      subst (λ (t : Player). IsInPlace w (k + 0) t × IsLinked queues w.batches t × HasEnded w.batches t.worker) (sym is)
      (subst (λ (n : ℕ). IsInPlace w n x) (let z : k ≡ k + 0 = omega arith in z) p.0, q.0, e.0)
  at_place k (x ∷ xs) p q e (suc j) s is below =
      let r = at_place (k + 1) xs p.1 q.1 e.1 j s is (omega arith) in
      (subst (λ (n : ℕ). IsInPlace w n s) (let z : k + 1 + j ≡ k + suc j = omega arith in z) r.0, r.1, r.2)

  -- the taking pass of the last list's edge
  pub taken_now : (j : ℕ) (s : Player) (p : Pass Parcel View) (r : Slotted (Option Parcel) (Doing Parcel View) Q A) → IsInPlace w j s → IsLinked queues w.batches s
      → r ≡ get_or queues j r → IsPassOf r p → (view p).kind ≡ Taking → (view p).position ≡ length (edge_stream (into_of (view s.taking).window)) → HasTaken queues w j p
  taken_now j s p r place linked is on kind all = record {
    on = λ q at. (on.0 ∙ (sym (linked.taking r (is ∙ ap (λ n. get_or queues n r) (sym place.number))).0 ∙ (linked.taking q (at ∙ ap (λ n. get_or queues n q) (sym place.number))).0), on.1);
    kind = kind;
    all = all ∙ ap (λ (v : EdgeWindow). length (edge_stream (into_of v))) place.taking_in;
  }

  others_drained : (k : ℕ) (ss : List Player) → AllInPlace w k ss → AllLinked queues w.batches ss → AllEnded w.batches ss → worker_of w.workers (length w.batches) < k → AllDrained queues w k ss
  others_drained k [] p q e less = tt
  others_drained k (x ∷ xs) p q e less = (drained queues w k x p.0 q.0 e.0 count (λ same. omega (arith, less, same)), others_drained (k + 1) xs p.1 q.1 e.1 (omega (arith, less)))

  pub drained_all : (k : ℕ) (ss : List Player) → AllInPlace w k ss → AllLinked queues w.batches ss → AllEnded w.batches ss → (j : ℕ) (s r : Player) → s ≡ get_or ss j s → j < length ss
      → worker_of w.workers (length w.batches) ≡ k + j → HasTaken queues w (k + j) r.taking → r.giving ≡ s.giving → AllDrained queues w k (set ss j r)
  drained_all k [] p q e j s r is below last t same = tt
  drained_all k (x ∷ xs) p q e zero s r is below last t same =
      let g = given queues w k x p.0 q.0 e.0 count in (
        record {
          taking = subst (λ (n : ℕ). HasTaken queues w n r.taking) (let z : k + 0 ≡ k = omega arith in z) t;
          giving = subst (HasGiven queues w (worker_after w.workers k)) (sym (same ∙ ap (λ (t : Player). t.giving) is)) g;
        },
        others_drained (k + 1) xs p.1 q.1 e.1 (omega (arith, last)),
      )
  drained_all k (x ∷ xs) p q e (suc j) s r is below last t same = (
    drained queues w k x p.0 q.0 e.0 count (λ here. omega (arith, here, last)),
    drained_all (k + 1) xs p.1 q.1 e.1 j s r is (omega arith) (omega (arith, last)) (subst (λ (n : ℕ). HasTaken queues w n r.taking) (let z : k + suc j ≡ k + 1 + j = omega arith in z) t) same,
  )

  drained_split : (k : ℕ) (xs : List Player) (x : Player) → AllDrained queues w k (xs ++ x ∷ []) → AllDrained queues w k xs × IsDrained queues w (k + length xs) x
  drained_split k [] x h = (tt, subst (λ (n : ℕ). IsDrained queues w n x) (let z : k ≡ k + 0 = omega arith in z) h.0)
  drained_split k (y ∷ ys) x h =
      let r = drained_split (k + 1) ys x h.1 in
      ((h.0, r.0), subst (λ (n : ℕ). IsDrained queues w n x) (let z : k + 1 + length ys ≡ k + length (y ∷ ys) = omega arith in z) r.1)

  module _ (xs : List Player) (x : Player) (all : AllDrained queues w 0 (xs ++ x ∷ [])) (many : length (xs ++ x ∷ []) ≡ w.workers) where
    within : length xs + 1 ≡ w.workers
    within = omega (arith, many, length-append xs (x ∷ []))

    first_given : HasGiven queues w 0 x.giving
    first_given = subst (λ (n : ℕ). HasGiven queues w n x.giving) (after_last w.workers (0 + length xs) (omega (arith, within)) (omega (arith, within))) (drained_split 0 xs x all).1.giving

    pub even_all : AllEven queues 0 (x.giving ∷ givings xs) (takings xs ++ x.taking ∷ [])
    even_all = even_chain queues w 0 x.giving xs x count (omega (arith, within)) first_given (drained_split 0 xs x all).0 (drained_split 0 xs x all).1.taking

    pub raised_all : (ps : List (Pass Parcel View)) → AllJoined queues 0 (x.giving ∷ givings xs) ps → AllRaised queues w 0 (x.giving ∷ givings xs) ps
    raised_all ps j = raised_chain queues w 0 x.giving xs ps (omega (arith, within)) first_given (drained_split 0 xs x all).0 j

  module _ (ss : List Player) (p : AllInPlace w 0 ss) (q : AllLinked queues w.batches ss) (e : AllEnded w.batches ss) (some : 0 < w.workers) (many : length ss ≡ w.workers)
      (j : ℕ) (last : worker_of w.workers (length w.batches) ≡ j) (s : Player) (is : s ≡ get_or ss j s) where
    inside : j < length ss
    inside = let b = mod_below (length w.batches) w.workers some in omega (arith, last, many, b)

    -- the player of the last list's worker
    pub at_last : IsInPlace w j s × IsLinked queues w.batches s × HasEnded w.batches s.worker
    at_last =
        let r = at_place 0 ss p q e j s is inside in
        (subst (λ (n : ℕ). IsInPlace w n s) (let z : 0 + j ≡ j = omega arith in z) r.0, r.1, r.2)

    pub split_all : (xs : List Player) (x r : Player) → set ss j r ≡ xs ++ x ∷ [] → HasTaken queues w j r.taking → r.giving ≡ s.giving → AllDrained queues w 0 (xs ++ x ∷ []) × (length (xs ++ x ∷ []) ≡ w.workers)
    split_all xs x r cut t same = (
      subst (AllDrained queues w 0) cut (drained_all 0 ss p q e j s r is inside (omega (arith, last)) (subst (λ (n : ℕ). HasTaken queues w n r.taking) (let z : j ≡ 0 + j = omega arith in z) t) same),
      sym (ap length cut) ∙ (length-set ss j r ∙ many),
    )
