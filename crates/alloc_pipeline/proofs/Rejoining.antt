-- The last of a ring's edges, and the others.
use Rattle.std.proofs.Common.{◌≡◌, ℕ, ◌+◌, false, List, [], ◌∷◌, ◌++◌, length, Option, get_or, sym, ap, ◌∙◌, subst, refl, arith}
use Rattle.crossbeam_queue.specs.Passes.{Pass, view, IsPassOf}
use Rattle.crossbeam_queue.specs.declared.array_queue.Doing.{Doing}
use Rattle.crossbeam_queue.specs.declared.array_queue.Slotted.{Slotted}
use Rattle.ring_core.specs.States.{WorkerState}
use Rattle.alloc_pipeline.specs.declared.parcel.Parcel.{Parcel}
use Rattle.alloc_pipeline.specs.declared.parcel.View.{View}
use Rattle.alloc_pipeline.specs.declared.player.Player.{Player}
use Rattle.alloc_pipeline.specs.Rules.{whole}
use Rattle.alloc_pipeline.specs.Rings.{IsOn}
use Rattle.alloc_pipeline.specs.Joined.{givings, takings, crew_of, IsEven, AllEven, IsJoined, AllJoined}

pub givings_last : (xs : List Player) (x : Player) → givings (xs ++ x ∷ []) ≡ givings xs ++ x.giving ∷ []
givings_last [] x = refl
givings_last (y ∷ ys) x = ap (λ (zs : List (Pass Parcel View)). y.giving ∷ zs) (givings_last ys x)

pub takings_last : (xs : List Player) (x : Player) → takings (xs ++ x ∷ []) ≡ takings xs ++ x.taking ∷ []
takings_last [] x = refl
takings_last (y ∷ ys) x = ap (λ (zs : List (Pass Parcel View)). y.taking ∷ zs) (takings_last ys x)

pub crew_last : (xs : List Player) (x : Player) → crew_of (xs ++ x ∷ []) ≡ crew_of xs ++ x.worker ∷ []
crew_last [] x = refl
crew_last (y ∷ ys) x = ap (λ (zs : List WorkerState). y.worker ∷ zs) (crew_last ys x)

pub givings_count : (xs : List Player) → length (givings xs) ≡ length xs
givings_count [] = refl
givings_count (x ∷ xs) = let h = givings_count xs in omega (arith, h)

pub crew_then : (all xs : List Player) (x : Player) (some out : List WorkerState) → all ≡ xs ++ x ∷ [] → out ≡ some ++ x.worker ∷ [] → some ≡ crew_of xs → out ≡ crew_of all
crew_then all xs x some out e e' h = e' ∙ (ap (λ (ws : List WorkerState). ws ++ x.worker ∷ []) h ∙ sym (ap crew_of e ∙ crew_last xs x))

module _ {Q A : Type 0} (queues : List (Slotted (Option Parcel) (Doing Parcel View) Q A)) where
  none_even : (k : ℕ) (ts : List (Pass Parcel View)) (t : Pass Parcel View) → AllEven queues k [] (ts ++ t ∷ []) → ⊥
  none_even k [] t h = h
  none_even k (b ∷ bs) t h = h

  even_none : (k : ℕ) (gs : List (Pass Parcel View)) (g : Pass Parcel View) → AllEven queues k (gs ++ g ∷ []) [] → ⊥
  even_none k [] g h = h
  even_none k (b ∷ bs) g h = h

  pub even_last : (k : ℕ) (gs ts : List (Pass Parcel View)) (g t : Pass Parcel View) → AllEven queues k (gs ++ g ∷ []) (ts ++ t ∷ []) → AllEven queues k gs ts × IsEven queues (k + length gs) g t
  even_last k [] [] g t h = (tt, subst (λ (n : ℕ). IsEven queues n g t) (let q : k ≡ k + 0 = omega arith in q) h.0)
  even_last k (a ∷ gs) (b ∷ ts) g t h =
      let r = even_last (k + 1) gs ts g t h.1 in
      ((h.0, r.0), subst (λ (n : ℕ). IsEven queues n g t) (let q : k + 1 + length gs ≡ k + length (a ∷ gs) = omega arith in q) r.1)
  even_last k [] (b ∷ ts) g t h = absurd (none_even (k + 1) ts t h.1)
  even_last k (a ∷ gs) [] g t h = absurd (even_none (k + 1) gs g h.1)

  pub even_of : (all xs : List Player) (x : Player) (first last : Pass Parcel View) → all ≡ xs ++ x ∷ [] → AllEven queues 0 (first ∷ givings all) (takings all ++ last ∷ [])
      → AllEven queues 0 (first ∷ givings xs) (takings xs ++ x.taking ∷ []) × IsEven queues (length xs + 1) x.giving last
  even_of all xs x first last e h =
      let gs : givings all ≡ givings xs ++ x.giving ∷ [] = ap givings e ∙ givings_last xs x in
      let ts : takings all ≡ takings xs ++ x.taking ∷ [] = ap takings e ∙ takings_last xs x in
      let r = even_last 0 (first ∷ givings xs) (takings xs ++ x.taking ∷ []) x.giving last
      (subst (λ (p : List (Pass Parcel View) × List (Pass Parcel View)). AllEven queues 0 (first ∷ p.0) (p.1 ++ last ∷ [])) (λ i. (gs i, ts i)) h) in
      (r.0, subst (λ (n : ℕ). IsEven queues n x.giving last) (let q : 0 + length (first ∷ givings xs) ≡ length xs + 1 = omega (arith, givings_count xs) in q) r.1)

  pub joined_last : (k : ℕ) (gs ps : List (Pass Parcel View)) (g p : Pass Parcel View) → AllJoined queues k gs ps → IsJoined queues (k + length gs) g p → AllJoined queues k (gs ++ g ∷ []) (ps ++ p ∷ [])
  joined_last k [] [] g p h j = (subst (λ (n : ℕ). IsJoined queues n g p) (let q : k + 0 ≡ k = omega arith in q) j, tt)
  joined_last k (a ∷ gs) (b ∷ ps) g p h j =
      (h.0, joined_last (k + 1) gs ps g p h.1 (subst (λ (n : ℕ). IsJoined queues n g p) (let q : k + length (a ∷ gs) ≡ k + 1 + length gs = omega arith in q) j))
  joined_last k [] (b ∷ ps) g p h j = absurd h
  joined_last k (a ∷ gs) [] g p h j = absurd h

  pub joined_of : (all xs : List Player) (x : Player) (first p : Pass Parcel View) (ps out : List (Pass Parcel View)) → all ≡ xs ++ x ∷ [] → out ≡ ps ++ p ∷ []
      → AllJoined queues 0 (first ∷ givings xs) ps → IsJoined queues (length xs + 1) x.giving p → AllJoined queues 0 (first ∷ givings all) out
  joined_of all xs x first p ps out e e' h j =
      let gs : givings all ≡ givings xs ++ x.giving ∷ [] = ap givings e ∙ givings_last xs x in
      subst (λ (q : List (Pass Parcel View) × List (Pass Parcel View)). AllJoined queues 0 (first ∷ q.0) q.1) (λ i. (sym gs i, sym e' i))
      (joined_last 0 (first ∷ givings xs) ps x.giving p h (subst (λ (n : ℕ). IsJoined queues n x.giving p) (let q : length xs + 1 ≡ 0 + length (first ∷ givings xs) = omega (arith, givings_count xs) in q) j))

  -- one edge's passes, at the queue that was looked up
  pub on_at : (k n : ℕ) (p : Pass Parcel View) (r : Slotted (Option Parcel) (Doing Parcel View) Q A) → n ≡ k → IsOn queues k p → r ≡ get_or queues n r → IsPassOf r p
  on_at k n p r e on is = on r (is ∙ ap (λ m. get_or queues m r) e)

  pub joined_at : (k n : ℕ) (g t p : Pass Parcel View) (r : Slotted (Option Parcel) (Doing Parcel View) Q A) → n ≡ k → IsEven queues k g t → r ≡ get_or queues n r → IsPassOf r p
      → view p ≡ whole false (view g).window ((view g).moved + (view g).position) → IsJoined queues k g p
  joined_at k n g t p r e h is on joined = record {
    on = λ q at. (on.0 ∙ (sym (on_at k n g r e h.on_giving is).0 ∙ (h.on_giving q at).0), on.1);
    joined = joined;
  }
