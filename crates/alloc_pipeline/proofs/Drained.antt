-- Where all workers have ended, all edges but the one with the last list are even.
use Rattle.std.proofs.Common.{◌≡◌, ◌≢◌, ℕ, ◌+◌, ◌<◌, ◌≤◌, false, List, [], ◌∷◌, ◌++◌, length, Option, sym, ap, ◌∙◌, subst, arith, inl, inr, ◌⊎◌}
use Rattle.std.proofs.Common.{get_or}
use Rattle.std.proofs.lemmas.Bool.{cases_lt}
use Rattle.crossbeam_queue.specs.Passes.{Pass, view}
use Rattle.crossbeam_queue.specs.declared.array_queue.Doing.{Doing}
use Rattle.crossbeam_queue.specs.declared.array_queue.Slotted.{Slotted}
use Rattle.ring_core.specs.Windows.{worker_of, worker_after}
use Rattle.ring_core.specs.Streams.{pieces_into, edge_stream}
use Rattle.ring_core.specs.Workers.{HasEnded}
use Rattle.ring_core.proofs.StreamLemmas.{after_small, after_last}
use Rattle.alloc_pipeline.specs.declared.parcel.EdgeWindow.{EdgeWindow}
use Rattle.alloc_pipeline.specs.declared.parcel.Parcel.{Parcel}
use Rattle.alloc_pipeline.specs.declared.parcel.View.{View}
use Rattle.alloc_pipeline.specs.declared.player.Player.{Player}
use Rattle.alloc_pipeline.specs.Rules.{whole, into_of}
use Rattle.alloc_pipeline.specs.Players.{ends_of, Follows}
use Rattle.alloc_pipeline.specs.Rings.{IsOn, IsLinked, AllGoOn, StandsBeforeLast}
use Rattle.alloc_pipeline.specs.Joined.{givings, takings, AllEven, IsJoined, AllJoined, IsInPlace, AllInPlace, HasGiven, HasTaken, IsDrained, AllDrained, IsRaised, AllRaised}
use Rattle.alloc_pipeline.proofs.Joins.{taken_all, sent_all, none_left}

-- a player stays in its place
pub place_then : (w : EdgeWindow) (k : ℕ) (s r : Player) → IsInPlace w k s → Follows s r → IsInPlace w k r
place_then w k s r h f = record {
  number = f.number ∙ h.number;
  worker = f.worker.same_number ∙ h.worker;
  workers = f.worker.same_workers ∙ h.workers;
  taking_in = f.taking_in ∙ h.taking_in;
  giving_in = f.giving_in ∙ h.giving_in;
}

module _ {Q A : Type 0} (queues : List (Slotted (Option Parcel) (Doing Parcel View) Q A)) (w : EdgeWindow) where
  pub places_then : (k : ℕ) (ss rs : List Player) → AllInPlace w k ss → AllGoOn queues w.batches ss rs → AllInPlace w k rs
  places_then k [] [] h f = tt
  places_then k (s ∷ ss) (r ∷ rs) h f = (place_then w k s r h.0 f.0.follows, places_then (k + 1) ss rs h.1 f.1)
  places_then k [] (r ∷ rs) h f = absurd f
  places_then k (s ∷ ss) [] h f = absurd f

  module _ (k : ℕ) (s : Player) (place : IsInPlace w k s) (linked : IsLinked queues w.batches s) (past : HasEnded w.batches s.worker) (count : length queues ≡ w.workers) where
    below : k < w.workers
    below = omega (arith, linked.number, place.number, count)

    on_next : (k + 1 < w.workers) ⊎ (w.workers ≤ k + 1) → IsOn queues (worker_after w.workers k) s.giving
    on_next (inl small) = λ q is. linked.giving (omega (arith, small, place.number, count)) q (is ∙ ap (λ n. get_or queues n q) (after_small w.workers k small ∙ (let e : k + 1 ≡ s.number + 1 = omega (arith, place.number) in e)))
    on_next (inr great) = λ q is. linked.giving_last (omega (arith, great, place.number, count)) q (is ∙ ap (λ n. get_or queues n q) (after_last w.workers k below great))

    -- all is sent
    pub given : HasGiven queues w (worker_after w.workers k) s.giving
    given = record {
      on = on_next (cases_lt (k + 1) w.workers);
      kind = linked.plays.giving;
      window = place.giving_in;
      all = sent_all w.batches (ends_of s) s.worker linked.plays.plays past ∙ ap (λ (v : EdgeWindow). length (edge_stream (into_of v))) place.giving_in;
    }

    -- where the last list goes to another worker, all is taken
    pub taken : worker_of w.workers (length w.batches) ≢ k → HasTaken queues w k s.taking
    taken other = record {
      on = λ q is. linked.taking q (is ∙ ap (λ n. get_or queues n q) (sym place.number));
      kind = linked.plays.taking;
      all = none_left w.batches (ends_of s) s.worker linked.plays.plays past (λ same. other ((λ i. worker_of (sym place.taking_in i).workers (length w.batches)) ∙ (same ∙ place.worker)))
          ∙ (λ i. length (edge_stream (record { window = (into_of (place.taking_in i)).window; worker = place.worker i })));
    }

    pub drained : worker_of w.workers (length w.batches) ≢ k → IsDrained queues w k s
    drained other = record { taking = taken other; giving = given }

    -- where it goes to this one, it alone is left
    pub stands_last : worker_of w.workers (length w.batches) ≡ k → StandsBeforeLast (view s.taking).window (view s.taking).position
    stands_last here = record {
      last = (λ i. worker_of (place.taking_in i).workers (length (place.taking_in i).batches)) ∙ (here ∙ (λ i. (sym place.taking_in i).worker));
      taken_is = taken_all w.batches (ends_of s) s.worker linked.plays.plays past
          ∙ (λ i. length (pieces_into (into_of (view s.taking).window).window ((place.worker ∙ (λ j. (sym place.taking_in j).worker)) i) (length (sym place.taking_in i).batches)));
    }

  -- each edge's giving pass and taking pass are even
  pub even_chain : (k : ℕ) (g : Pass Parcel View) (xs : List Player) (x : Player) → length queues ≡ w.workers → k + length xs < w.workers
      → HasGiven queues w k g → AllDrained queues w k xs → HasTaken queues w (k + length xs) x.taking → AllEven queues k (g ∷ givings xs) (takings xs ++ x.taking ∷ [])
  even_chain k g [] x count within h d t =
      let t' = subst (λ (n : ℕ). HasTaken queues w n x.taking) (let e : k + 0 ≡ k = omega arith in e) t in
      (record { number = omega (arith, count, within); on_giving = h.on; on_taking = t'.on; giving = h.kind; taking = t'.kind; even = h.all ∙ sym t'.all }, tt)
  even_chain k g (s ∷ ss) x count within h d t =
      let n : worker_after w.workers k ≡ k + 1 = after_small w.workers k (omega (arith, within)) in (
        record { number = omega (arith, count, within); on_giving = h.on; on_taking = d.0.taking.on; giving = h.kind; taking = d.0.taking.kind; even = h.all ∙ sym d.0.taking.all },
        even_chain (k + 1) s.giving ss x count (omega (arith, within)) (subst (λ (m : ℕ). HasGiven queues w m s.giving) n d.0.giving) d.1
            (subst (λ (m : ℕ). HasTaken queues w m x.taking) (let e : k + length (s ∷ ss) ≡ k + 1 + length ss = omega arith in e) t),
      )

  -- and once joined, each has moved its stream
  pub raised_at : (k : ℕ) (g p : Pass Parcel View) → HasGiven queues w k g → IsJoined queues k g p → IsRaised queues w k g p
  raised_at k g p h j = record { on = j.on; raised = j.joined ∙ (λ i. whole false (h.window i) ((view g).moved + h.all i)) }

  pub raised_chain : (k : ℕ) (g : Pass Parcel View) (xs : List Player) (ps : List (Pass Parcel View)) → k + length xs < w.workers
      → HasGiven queues w k g → AllDrained queues w k xs → AllJoined queues k (g ∷ givings xs) ps → AllRaised queues w k (g ∷ givings xs) ps
  raised_chain k g [] (p ∷ []) within h d j = (raised_at k g p h j.0, tt)
  raised_chain k g (s ∷ ss) (p ∷ ps) within h d j =
      let n : worker_after w.workers k ≡ k + 1 = after_small w.workers k (omega (arith, within)) in
      (raised_at k g p h j.0, raised_chain (k + 1) s.giving ss ps (omega (arith, within)) (subst (λ (m : ℕ). HasGiven queues w m s.giving) n d.0.giving) d.1 j.1)
  raised_chain k g [] [] within h d j = absurd j
  raised_chain k g [] (p ∷ q ∷ ps) within h d j = absurd j.1
  raised_chain k g (s ∷ ss) [] within h d j = absurd j
