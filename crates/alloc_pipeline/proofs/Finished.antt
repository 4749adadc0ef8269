-- What the players have moved before, and how many they are, once all have finished.
use Rattle.std.proofs.Common.{◌≡◌, ℕ, ◌+◌, false, List, [], ◌∷◌, length, Option, sym, ap, ◌∙◌, subst, refl, arith}
use Rattle.crossbeam_queue.specs.Passes.{Pass, view}
use Rattle.crossbeam_queue.specs.declared.array_queue.Doing.{Doing}
use Rattle.crossbeam_queue.specs.declared.array_queue.Slotted.{Slotted}
use Rattle.greedy_rules.specs.Batches.{DemandBatch}
use Rattle.alloc_pipeline.specs.declared.parcel.EdgeWindow.{EdgeWindow}
use Rattle.alloc_pipeline.specs.declared.parcel.Parcel.{Parcel}
use Rattle.alloc_pipeline.specs.declared.parcel.View.{View}
use Rattle.alloc_pipeline.specs.declared.player.Player.{Player}
use Rattle.alloc_pipeline.specs.Rules.{whole}
use Rattle.alloc_pipeline.specs.Rings.{AllLinked, AllGoOn, AllEnded}
use Rattle.alloc_pipeline.specs.Starts.{SameMoved, played_window, MayCollect, MayPlayOut}
use Rattle.alloc_pipeline.proofs.Rounds.{all_then}
use Rattle.alloc_pipeline.proofs.Drained.{places_then}
use Rattle.alloc_pipeline.specs.Joined.{givings, last_pass, early_of, turned_passes, turned, edge_at, stream_at, AllRaised}

last_moved : (g h : Pass Parcel View) (gs hs : List (Pass Parcel View)) → (view h).moved ≡ (view g).moved → SameMoved gs hs → (view (last_pass h hs)).moved ≡ (view (last_pass g gs)).moved
last_moved g h [] [] e s = e
last_moved g h (a ∷ gs) (b ∷ hs) e s = last_moved a b gs hs s.0 s.1
last_moved g h [] (b ∷ hs) e s = absurd s
last_moved g h (a ∷ gs) [] e s = absurd s

early_moved : (g h : Pass Parcel View) (gs hs : List (Pass Parcel View)) → (view h).moved ≡ (view g).moved → SameMoved gs hs → SameMoved (early_of g gs) (early_of h hs)
early_moved g h [] [] e s = tt
early_moved g h (a ∷ gs) (b ∷ hs) e s = (e, early_moved a b gs hs s.0 s.1)
early_moved g h [] (b ∷ hs) e s = absurd s
early_moved g h (a ∷ gs) [] e s = absurd s

turn_moved : (gs hs : List (Pass Parcel View)) → SameMoved gs hs → SameMoved (turned_passes gs) (turned_passes hs)
turn_moved [] [] s = tt
turn_moved (g ∷ gs) (h ∷ hs) s = (last_moved g h gs hs s.0 s.1, early_moved g h gs hs s.0 s.1)
turn_moved [] (h ∷ hs) s = absurd s
turn_moved (g ∷ gs) [] s = absurd s

module _ {Q A : Type 0} (queues : List (Slotted (Option Parcel) (Doing Parcel View) Q A)) where
  pub on_count : (batches : List DemandBatch) (ss rs : List Player) → AllGoOn queues batches ss rs → length rs ≡ length ss
  on_count batches [] [] f = refl
  on_count batches (s ∷ ss) (r ∷ rs) f = let h = on_count batches ss rs f.1 in omega (arith, h)
  on_count batches [] (r ∷ rs) f = absurd f
  on_count batches (s ∷ ss) [] f = absurd f

  givings_moved : (batches : List DemandBatch) (ss rs : List Player) → AllGoOn queues batches ss rs → SameMoved (givings ss) (givings rs)
  givings_moved batches [] [] f = tt
  givings_moved batches (s ∷ ss) (r ∷ rs) f = (f.0.follows.moved, givings_moved batches ss rs f.1)
  givings_moved batches [] (r ∷ rs) f = absurd f
  givings_moved batches (s ∷ ss) [] f = absurd f

  raised_moved : (w : EdgeWindow) (k : ℕ) (gs hs ps : List (Pass Parcel View)) → SameMoved gs hs → AllRaised queues w k hs ps → AllRaised queues w k gs ps
  raised_moved w k [] [] [] s r = tt
  raised_moved w k (g ∷ gs) (h ∷ hs) (p ∷ ps) s r =
      (record { on = r.0.on; raised = r.0.raised ∙ ap (λ (n : ℕ). whole false (edge_at w k) (n + length (stream_at w k))) s.0 }, raised_moved w (k + 1) gs hs ps s.1 r.1)
  raised_moved w k [] [] (p ∷ ps) s r = absurd r
  raised_moved w k (g ∷ gs) (h ∷ hs) [] s r = absurd r
  raised_moved w k [] (h ∷ hs) ps s r = absurd s
  raised_moved w k (g ∷ gs) [] ps s r = absurd s

  -- each edge has moved its stream, beside what it had moved when the players began
  pub raised_since : (w : EdgeWindow) (batches : List DemandBatch) (ss rs : List Player) (ps : List (Pass Parcel View)) → AllGoOn queues batches ss rs → AllRaised queues w 0 (turned rs) ps → AllRaised queues w 0 (turned ss) ps
  raised_since w batches ss rs ps f r = raised_moved w 0 (turned ss) (turned rs) ps (turn_moved (givings ss) (givings rs) (givings_moved batches ss rs f)) r

  -- they play the same window
  pub window_stays : (batches : List DemandBatch) (ss rs : List Player) → AllGoOn queues batches ss rs → played_window rs ≡ played_window ss
  window_stays batches [] [] f = refl
  window_stays batches (s ∷ ss) (r ∷ rs) f = λ i. edge_at (f.0.follows.taking_in i) 0
  window_stays batches [] (r ∷ rs) f = absurd f
  window_stays batches (s ∷ ss) [] f = absurd f

  -- and what they leave may be collected
  pub may_collect : (batches : List DemandBatch) (ss rs : List Player) (last room spare : ℕ) → AllGoOn queues batches ss rs → AllEnded batches rs → MayPlayOut queues (played_window ss) batches ss last room spare
      → MayCollect queues (played_window rs) rs last room spare
  may_collect batches ss rs last room spare f ended may =
      let w : EdgeWindow = played_window ss in
      subst (λ (v : EdgeWindow). MayCollect queues v rs last room spare) (sym (window_stays batches ss rs f))
      (record {
        linked = subst (λ (bs : List DemandBatch). AllLinked queues bs rs) (sym may.batches_are) (all_then queues batches ss rs may.linked f);
        ended = subst (λ (bs : List DemandBatch). AllEnded bs rs) (sym may.batches_are) ended;
        all = record {
          places = places_then queues w 0 ss rs may.all.places (subst (λ (bs : List DemandBatch). AllGoOn queues bs ss rs) (sym may.batches_are) f);
          queue_count = may.all.queue_count;
          player_count = on_count batches ss rs f ∙ may.all.player_count;
          some_workers = may.all.some_workers;
          few_workers = may.all.few_workers;
          last_is = may.all.last_is;
          fits = may.all.fits;
          counts = may.all.counts;
        };
      })
