-- The last of a ring's players, and the others.
use Rattle.std.proofs.Common.{◌≡◌, ℕ, ◌+◌, ◌<◌, ◌≤◌, List, [], ◌∷◌, ◌++◌, length, Option, get_or, ◌⊎◌, ⊎_elim, sym, ap, ◌∙◌, subst, refl, arith}
use Rattle.crossbeam_queue.specs.Passes.{IsPassOf}
use Rattle.crossbeam_queue.specs.declared.array_queue.Doing.{Doing}
use Rattle.crossbeam_queue.specs.declared.array_queue.Slotted.{Slotted}
use Rattle.greedy_rules.specs.Batches.{DemandBatch}
use Rattle.ring_core.specs.States.{WorkerState}
use Rattle.ring_core.specs.Workers.{HasEnded, IsSameWorker}
use Rattle.alloc_pipeline.specs.declared.parcel.Parcel.{Parcel}
use Rattle.alloc_pipeline.specs.declared.parcel.View.{View}
use Rattle.alloc_pipeline.specs.declared.player.Player.{Player}
use Rattle.alloc_pipeline.specs.Players.{PlaysAt, Follows}
use Rattle.alloc_pipeline.specs.Rings.{IsLinked, AllLinked, GoesOn, AllGoOn, AllEnded}

pub same_worker : (w : WorkerState) → IsSameWorker w w
same_worker w = record { same_number = refl; same_workers = refl; same_endpoints = refl; same_batches = refl; same_b = refl }

pub same_then : (u v w : WorkerState) → IsSameWorker u v → IsSameWorker v w → IsSameWorker u w
same_then u v w a b = record {
  same_number = b.same_number ∙ a.same_number;
  same_workers = b.same_workers ∙ a.same_workers;
  same_endpoints = b.same_endpoints ∙ a.same_endpoints;
  same_batches = b.same_batches ∙ a.same_batches;
  same_b = b.same_b ∙ a.same_b;
}

pub follows_self : (s : Player) → Follows s s
follows_self s = record { number = refl; taking_id = refl; giving_id = refl; taking_in = refl; giving_in = refl; moved = refl; worker = same_worker s.worker }

pub follows_then : (s r u : Player) → Follows s r → Follows r u → Follows s u
follows_then s r u a b = record {
  number = b.number ∙ a.number;
  taking_id = b.taking_id ∙ a.taking_id;
  giving_id = b.giving_id ∙ a.giving_id;
  taking_in = b.taking_in ∙ a.taking_in;
  giving_in = b.giving_in ∙ a.giving_in;
  moved = b.moved ∙ a.moved;
  worker = same_then s.worker r.worker u.worker a.worker b.worker;
}

module _ {Q A : Type 0} (queues : List (Slotted (Option Parcel) (Doing Parcel View) Q A)) (batches : List DemandBatch) where
  pub linked_last : (xs : List Player) (x : Player) → AllLinked queues batches (xs ++ x ∷ []) → AllLinked queues batches xs × IsLinked queues batches x
  linked_last [] x h = (tt, h.0)
  linked_last (y ∷ ys) x h = let r = linked_last ys x h.1 in ((h.0, r.0), r.1)

  pub on_last : (xs ys : List Player) (x y : Player) → AllGoOn queues batches xs ys → GoesOn queues batches x y → AllGoOn queues batches (xs ++ x ∷ []) (ys ++ y ∷ [])
  on_last [] [] x y h f = (f, tt)
  on_last (a ∷ as_) (b ∷ bs) x y h f = (h.0, on_last as_ bs x y h.1 f)
  on_last [] (b ∷ bs) x y h f = absurd h
  on_last (a ∷ as_) [] x y h f = absurd h

  pub linked_of : (all xs : List Player) (x : Player) → all ≡ xs ++ x ∷ [] → AllLinked queues batches all → AllLinked queues batches xs × IsLinked queues batches x
  linked_of all xs x e h = linked_last xs x (subst (AllLinked queues batches) e h)

  pub on_of : (all xs ys out : List Player) (x y : Player) → all ≡ xs ++ x ∷ [] → out ≡ ys ++ y ∷ [] → AllGoOn queues batches xs ys → GoesOn queues batches x y → AllGoOn queues batches all out
  on_of all xs ys out x y e e' h f = subst (λ (p : List Player × List Player). AllGoOn queues batches p.0 p.1) (λ i. (sym e i, sym e' i)) (on_last xs ys x y h f)

  pub giving_on : (s : Player) (next : ℕ) → IsLinked queues batches s → ((s.number + 1 < length queues) × (next ≡ s.number + 1)) ⊎ ((length queues ≤ s.number + 1) × (next ≡ 0))
      → (q : Slotted (Option Parcel) (Doing Parcel View) Q A) → q ≡ get_or queues next q → IsPassOf q s.giving
  giving_on s next h either q is =
      ⊎_elim (λ a. h.giving a.0 q (is ∙ ap (λ k. get_or queues k q) a.1)) (λ b. h.giving_last b.0 q (is ∙ ap (λ k. get_or queues k q) b.1)) either

  pub on_same : (xs : List Player) → AllLinked queues batches xs → AllGoOn queues batches xs xs
  on_same [] h = tt
  on_same (x ∷ xs) h = (record { plays = h.0.plays; follows = follows_self x }, on_same xs h.1)

  pub goes_on_of : (s was : Player) (shown : List DemandBatch) (r : Player) → was ≡ s → shown ≡ batches → PlaysAt shown r × Follows was r → GoesOn queues batches s r
  goes_on_of s was shown r e e' k =
      let h = subst (λ (p : Player × List DemandBatch). PlaysAt p.1 r × Follows p.0 r) (λ i. (e i, e' i)) k in
      record { plays = h.0; follows = h.1 }

  pub on_then : (xs ys zs : List Player) → AllGoOn queues batches xs ys → AllGoOn queues batches ys zs → AllGoOn queues batches xs zs
  on_then [] [] [] a b = tt
  on_then (x ∷ xs) (y ∷ ys) (z ∷ zs) a b = (record { plays = b.0.plays; follows = follows_then x y z a.0.follows b.0.follows }, on_then xs ys zs a.1 b.1)
  on_then [] [] (z ∷ zs) a b = absurd b
  on_then [] (y ∷ ys) zs a b = absurd a
  on_then (x ∷ xs) [] zs a b = absurd a
  on_then (x ∷ xs) (y ∷ ys) [] a b = absurd b

  pub on_there : (xs ys zs : List Player) → zs ≡ ys → AllGoOn queues batches xs ys → AllGoOn queues batches xs zs
  on_there xs ys zs e h = subst (AllGoOn queues batches xs) (sym e) h

  -- a player that finished is linked as before
  linked_then : (s r : Player) → IsLinked queues batches s → GoesOn queues batches s r → IsLinked queues batches r
  linked_then s r h f =
      let n = f.follows.number in
      let t : r.taking.table_id ≡ s.taking.table_id = f.follows.taking_id in
      let u : r.giving.table_id ≡ s.giving.table_id = f.follows.giving_id in
      record {
        number = omega (arith, h.number, n);
        taking = λ q is. (t ∙ (h.taking q (is ∙ ap (λ k. get_or queues k q) n)).0, f.plays.none_taking);
        giving = λ lt q is. (u ∙ (h.giving (omega (arith, lt, n)) q (is ∙ ap (λ k. get_or queues (k + 1) q) n)).0, f.plays.none_giving);
        giving_last = λ le q is. (u ∙ (h.giving_last (omega (arith, le, n)) q is).0, f.plays.none_giving);
        plays = f.plays;
      }

  pub all_then : (xs ys : List Player) → AllLinked queues batches xs → AllGoOn queues batches xs ys → AllLinked queues batches ys
  all_then [] [] h f = tt
  all_then (x ∷ xs) (y ∷ ys) h f = (linked_then x y h.0 f.0, all_then xs ys h.1 f.1)
  all_then [] (y ∷ ys) h f = absurd f
  all_then (x ∷ xs) [] h f = absurd f

pub ended_last : (batches : List DemandBatch) (xs : List Player) (x : Player) → AllEnded batches xs → HasEnded batches x.worker → AllEnded batches (xs ++ x ∷ [])
ended_last batches [] x h e = (e, tt)
ended_last batches (y ∷ ys) x h e = (h.0, ended_last batches ys x h.1 e)

pub ended_of : (batches : List DemandBatch) (xs out : List Player) (x : Player) → out ≡ xs ++ x ∷ [] → AllEnded batches xs → HasEnded batches x.worker → AllEnded batches out
ended_of batches xs out x e h f = subst (AllEnded batches) (sym e) (ended_last batches xs x h f)
