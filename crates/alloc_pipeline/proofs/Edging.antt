-- The edges of a ring, and one more at the end.
use Rattle.std.proofs.Common.{◌≡◌, ℕ, zero, suc, ◌+◌, ◌<◌, false, List, [], ◌∷◌, ◌++◌, length, replicate, Option, get_or, All, sym, ap, ◌∙◌, subst, refl, arith, length-append}
use Rattle.std.proofs.lemmas.List.Elements.{All-push}
use Rattle.crossbeam_queue.specs.Passes.{Pass, view, IsPassOf, ruled_capacity}
use Rattle.crossbeam_queue.specs.declared.array_queue.Doing.{Doing}
use Rattle.crossbeam_queue.specs.declared.array_queue.Slotted.{Slotted}
use Rattle.alloc_pipeline.specs.declared.parcel.Parcel.{Parcel}
use Rattle.alloc_pipeline.specs.declared.parcel.View.{View}
use Rattle.alloc_pipeline.specs.Rules.{whole, no_window}
use Rattle.alloc_pipeline.specs.Rings.{IsOn}
use Rattle.alloc_pipeline.specs.Starts.{IsResting, AllResting}
use Rattle.alloc_pipeline.specs.Crews.{moved_of}

get_in : {X : Type 0} (xs : List X) (x d : X) (k : ℕ) → k < length xs → get_or (xs ++ x ∷ []) k d ≡ get_or xs k d
get_in [] x d k below = absurd (omega arith)
get_in (y ∷ ys) x d zero below = refl
get_in (y ∷ ys) x d (suc k) below = get_in ys x d k (omega arith)

get_end : {X : Type 0} (xs : List X) (x d : X) → get_or (xs ++ x ∷ []) (length xs) d ≡ x
get_end [] x d = refl
get_end (y ∷ ys) x d = get_end ys x d

module _ {Q A : Type 0} (queues : List (Slotted (Option Parcel) (Doing Parcel View) Q A)) (queue : Slotted (Option Parcel) (Doing Parcel View) Q A) where
  resting_with : (k : ℕ) (p : Pass Parcel View) → k < length queues → IsResting queues k p → IsResting (queues ++ queue ∷ []) k p
  resting_with k p below rests = record { on = λ q is. rests.on q (is ∙ get_in queues queue q k below); whole = rests.whole; bare = rests.bare }

  -- a further queue at the end, with its pass
  resting_more : (k : ℕ) (ps : List (Pass Parcel View)) (p : Pass Parcel View) → k + length ps ≡ length queues → AllResting queues k ps → IsResting (queues ++ queue ∷ []) (length queues) p
      → AllResting (queues ++ queue ∷ []) k (ps ++ p ∷ [])
  resting_more k [] p count rest new = (subst (λ (n : ℕ). IsResting (queues ++ queue ∷ []) n p) (let q : length queues ≡ k = omega (arith, count) in q) new, tt)
  resting_more k (a ∷ ps) p count rest new = (resting_with k a (omega (arith, count)) rest.0, resting_more (k + 1) ps p (omega (arith, count)) rest.1 new)

  new_on : (p : Pass Parcel View) → IsPassOf queue p → IsOn (queues ++ queue ∷ []) (length queues) p
  new_on p on q is = subst (λ (r : Slotted (Option Parcel) (Doing Parcel View) Q A). IsPassOf r p) (sym (is ∙ get_end queues queue q)) on

moved_end : (ps : List (Pass Parcel View)) (p : Pass Parcel View) → moved_of (ps ++ p ∷ []) ≡ moved_of ps ++ (view p).moved ∷ []
moved_end [] p = refl
moved_end (a ∷ ps) p = ap (λ (ms : List ℕ). (view a).moved ∷ ms) (moved_end ps p)

none_more : (m n : ℕ) → replicate n m ++ m ∷ [] ≡ replicate (suc n) m
none_more m zero = refl
none_more m (suc n) = ap (λ (ms : List ℕ). m ∷ ms) (none_more m n)

module _ {Q A : Type 0} where
  -- so many edges, each with its whole pass, which have moved nothing
  pub record AreOpened (queues : List (Slotted (Option Parcel) (Doing Parcel View) Q A)) (passes : List (Pass Parcel View)) (count : ℕ) : Type 0 where
    pub queue_count : length queues ≡ count
    pub rooms : All (λ queue. ruled_capacity queue ≡ 2040) queues
    pub pass_count : length passes ≡ count
    pub resting : AllResting queues 0 passes
    pub moved : moved_of passes ≡ replicate count 0

  pub opened_more : (queues out : List (Slotted (Option Parcel) (Doing Parcel View) Q A)) (queue : Slotted (Option Parcel) (Doing Parcel View) Q A) (ps qs : List (Pass Parcel View)) (p : Pass Parcel View) (n : ℕ) → out ≡ queues ++ queue ∷ [] → qs ≡ ps ++ p ∷ []
      → AreOpened queues ps n → ruled_capacity queue ≡ 2040 → IsPassOf queue p → view p ≡ whole false no_window 0 → AreOpened out qs (n + 1)
  opened_more queues out queue ps qs p n out_is qs_are were room on is = record {
    queue_count = omega (arith, ap length out_is, length-append queues (queue ∷ []), were.queue_count);
    rooms = subst (All (λ q. ruled_capacity q ≡ 2040)) (sym out_is) (All-push (λ q. ruled_capacity q ≡ 2040) queues queue were.rooms room);
    pass_count = omega (arith, ap length qs_are, length-append ps (p ∷ []), were.pass_count);
    resting = subst (λ (xs : List (Slotted (Option Parcel) (Doing Parcel View) Q A)). AllResting xs 0 qs) (sym out_is) (subst (AllResting (queues ++ queue ∷ []) 0) (sym qs_are)
        (resting_more queues queue 0 ps p (omega (arith, were.queue_count, were.pass_count)) were.resting (record { on = new_on queues queue p on; whole = ap (λ (v : View). v.kind) is; bare = ap (λ (v : View). v.marked) is })));
    moved = ap moved_of qs_are ∙ (moved_end ps p ∙ ((λ i. were.moved i ++ (is i).moved ∷ []) ∙ (none_more 0 n ∙ (let e : suc n ≡ n + 1 = omega arith in let none : ℕ = 0 in ap (λ (k : ℕ). replicate k none) e))));
  }
