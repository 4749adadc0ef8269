-- The pieces of an edge's stream by their places.
use Rattle.std.proofs.Common.{◌≡◌, ◌<◌, ◌≤◌, ◌+◌, ◌-◌, ◌*◌, ◌/◌, ℕ, zero, suc, Bool, true, false, List, [], ◌∷◌, ◌++◌, length, cond, nat_eq, Some, slice_get, refl, sym, ap, ◌∙◌, subst, arith, inl, inr, length-append}
use Rattle.std.proofs.lemmas.Bool.{ne_eqb, cases_lt}
use Rattle.std.proofs.lemmas.Nat.{mod-mul-add, div-add-mod'}
use Rattle.std.proofs.lemmas.List.{append-nil}
use Rattle.std.proofs.lemmas.List.FromFn.{length-map-range_with_len}
use Rattle.list_facts.proofs.Lists.{get_within}
use Rattle.slot_batches.specs.Pieces.{Part, piece_at, pieces}
use Rattle.greedy_rules.proofs.TableLemmas.{next_row}
use Rattle.ring_core.specs.Windows.{Window, list_before_stage, pieces_before, worker_of}
use Rattle.ring_core.specs.Streams.{EdgeInto, pieces_at, pieces_into, edge_stream}
use Rattle.ring_core.specs.Workers.{own_stage}

-- whose stages these are
pub own_here : (workers worker place : ℕ) → worker < workers → worker_of workers (own_stage workers worker place) ≡ worker
own_here workers worker place below = mod-mul-add place workers worker below

pub own_not : (workers worker place d : ℕ) → worker < workers → 0 < d → d < workers → worker_of workers (own_stage workers worker place + d) ≡ worker → ⊥
own_not workers worker place d below some few is = elim (cases_lt (worker + d) workers) [
  | inl here ↦
      let same : own_stage workers worker place + d ≡ place * workers + (worker + d) = omega arith in
      let left : worker_of workers (own_stage workers worker place + d) ≡ worker + d = ap (worker_of workers) same ∙ mod-mul-add place workers (worker + d) here in
      omega (arith, left, is, some)
  | inr there ↦
      let same : own_stage workers worker place + d ≡ (place + 1) * workers + (worker + d - workers) = omega (arith, next_row place workers, there) in
      let left : worker_of workers (own_stage workers worker place + d) ≡ worker + d - workers = ap (worker_of workers) same ∙ mod-mul-add (place + 1) workers (worker + d - workers) (omega (arith, below, few)) in
      omega (arith, left, is, few, there)
]

-- the worker after another
pub after_small : (workers worker : ℕ) → worker + 1 < workers → worker_of workers (worker + 1) ≡ worker + 1
after_small workers worker below =
    ap (worker_of workers) (let q : worker + 1 ≡ 0 * workers + (worker + 1) = omega arith in q) ∙ mod-mul-add 0 workers (worker + 1) below

pub after_last : (workers worker : ℕ) → worker < workers → workers ≤ worker + 1 → worker_of workers (worker + 1) ≡ 0
after_last workers worker below last =
    ap (worker_of workers) (let q : worker + 1 ≡ 1 * workers + 0 = omega (arith, last, below) in q) ∙ mod-mul-add 1 workers 0 (omega (arith, below))

pub after_once : (workers one other : ℕ) → one < workers → other < workers → worker_of workers (one + 1) ≡ worker_of workers (other + 1) → one ≡ other
after_once workers one other below below' same = elim (cases_lt (one + 1) workers) [
  | inl small ↦ elim (cases_lt (other + 1) workers) [
    | inl small' ↦ omega (arith, after_small workers one small, after_small workers other small', same)
    | inr last' ↦ absurd (omega (arith, after_small workers one small, after_last workers other below' last', same))
  ]
  | inr last ↦ elim (cases_lt (other + 1) workers) [
    | inl small' ↦ absurd (omega (arith, after_last workers one below last, after_small workers other small', same))
    | inr last' ↦ omega (arith, below, below', last, last')
  ]
]

-- the stage after an own one is the next worker's
pub next_own : (workers worker place : ℕ) → worker < workers → worker_of workers (own_stage workers worker place + 1) ≡ worker_of workers (worker + 1)
next_own workers worker place below = elim (cases_lt (worker + 1) workers) [
  | inl here ↦
      let same : own_stage workers worker place + 1 ≡ place * workers + (worker + 1) = omega arith in
      ap (worker_of workers) same ∙ (mod-mul-add place workers (worker + 1) here ∙ sym (after_small workers worker here))
  | inr there ↦
      let same : own_stage workers worker place + 1 ≡ (place + 1) * workers + 0 = omega (arith, next_row place workers, there, below) in
      ap (worker_of workers) same ∙ (mod-mul-add (place + 1) workers 0 (omega (arith, below)) ∙ sym (after_last workers worker below there))
]

pub at_own : (window : Window) (worker stage : ℕ) → worker_of window.workers stage ≡ worker → pieces_at window worker stage ≡ pieces stage (list_before_stage window stage)
at_own window worker stage is = ap (λ (b : Bool). cond b (pieces stage (list_before_stage window stage)) []) (same (worker_of window.workers stage) worker is)
  where
    same : (a b : ℕ) → a ≡ b → nat_eq a b ≡ true
    same a b is = grind (arith, is)

pub at_other : (window : Window) (worker stage : ℕ) → (worker_of window.workers stage ≡ worker → ⊥) → pieces_at window worker stage ≡ []
at_other window worker stage is = ap (λ (b : Bool). cond b (pieces stage (list_before_stage window stage)) []) (ne_eqb (worker_of window.workers stage) worker is)

pub length-pieces : (window : Window) (stage : ℕ) → length (pieces stage (list_before_stage window stage)) ≡ pieces_before window stage
length-pieces window stage = length-map-range_with_len (piece_at stage (list_before_stage window stage)) 0 (pieces_before window stage)

module _ (window : Window) (worker : ℕ) where
  -- a stage of its own, and what is before it
  pub into_own : (stage : ℕ) → worker_of window.workers stage ≡ worker → pieces_into window worker (stage + 1) ≡ pieces_into window worker stage ++ pieces stage (list_before_stage window stage)
  into_own stage is =
      let next : stage + 1 ≡ suc stage = omega arith in
      ap (pieces_into window worker) next ∙ ap (λ (more : List Part). pieces_into window worker stage ++ more) (at_own window worker stage is)

  pub into_other : (stage : ℕ) → (worker_of window.workers stage ≡ worker → ⊥) → pieces_into window worker (suc stage) ≡ pieces_into window worker stage
  into_other stage is = ap (λ (more : List Part). pieces_into window worker stage ++ more) (at_other window worker stage is) ∙ append-nil (pieces_into window worker stage)

  -- up to the next stage of its own
  pub into_gap : (place d : ℕ) → worker < window.workers → d < window.workers
      → pieces_into window worker (own_stage window.workers worker place + 1 + d) ≡ pieces_into window worker (own_stage window.workers worker place + 1)
  into_gap place zero below few =
      let none : own_stage window.workers worker place + 1 + 0 ≡ own_stage window.workers worker place + 1 = omega arith in
      ap (pieces_into window worker) none
  into_gap place (suc d) below few =
      let here : ℕ = own_stage window.workers worker place + 1 + d in
      let next : own_stage window.workers worker place + 1 + suc d ≡ suc here = omega arith in
      let same : own_stage window.workers worker place + suc d ≡ here = omega arith in
      ap (pieces_into window worker) next
      ∙ (into_other here (λ is. own_not window.workers worker place (suc d) below (omega arith) few (ap (worker_of window.workers) same ∙ is)) ∙ into_gap place d below (omega arith))

  pub into_next : (place : ℕ) → worker < window.workers
      → length (pieces_into window worker (own_stage window.workers worker place + window.workers)) ≡ length (pieces_into window worker (own_stage window.workers worker place)) + pieces_before window (own_stage window.workers worker place)
  into_next place below =
      let here : ℕ = own_stage window.workers worker place in
      let all : here + 1 + (window.workers - 1) ≡ here + window.workers = omega (arith, below) in
      ap length (ap (pieces_into window worker) (sym all) ∙ (into_gap place (window.workers - 1) below (omega (arith, below)) ∙ into_own here (own_here window.workers worker place below)))
      ∙ (length-append (pieces_into window worker here) (pieces here (list_before_stage window here)) ∙ ap (λ (n : ℕ). length (pieces_into window worker here) + n) (length-pieces window here))

-- before the worker's first stage
pub into_none : (window : Window) (worker t : ℕ) → worker < window.workers → t ≤ worker → pieces_into window worker t ≡ []
into_none window worker zero below before = refl
into_none window worker (suc t) below before =
    let small : worker_of window.workers t ≡ t =
    ap (worker_of window.workers) (let q : t ≡ 0 * window.workers + t = omega arith in q) ∙ mod-mul-add 0 window.workers t (omega (arith, below, before)) in
    into_other window worker t (λ is. omega (arith, small, is, before)) ∙ into_none window worker t below (omega (arith, before))

-- from a stage to the next one of the same worker
pub into_step : (window : Window) (worker stage : ℕ) → worker < window.workers → worker_of window.workers stage ≡ worker
    → length (pieces_into window worker (stage + window.workers)) ≡ length (pieces_into window worker stage) + pieces_before window stage
into_step window worker stage below own =
    let place : ℕ = stage / window.workers in
    let same : own_stage window.workers worker place ≡ stage = ap (λ (n : ℕ). place * window.workers + n) (sym own) ∙ div-add-mod' stage window.workers in
    subst (λ (s : ℕ). length (pieces_into window worker (s + window.workers)) ≡ length (pieces_into window worker s) + pieces_before window s) same (into_next window worker place below)

get_left : {X : Type 0} (xs ys : List X) (k : ℕ) (x : X) → slice_get xs k ≡ Some x → slice_get (xs ++ ys) k ≡ Some x
get_left [] ys k x is = absurd (cc)
get_left (y ∷ xs) ys zero x is = is
get_left (y ∷ xs) ys (suc k) x is = get_left xs ys k x is

get_right : {X : Type 0} (xs ys : List X) (k : ℕ) → slice_get (xs ++ ys) (length xs + k) ≡ slice_get ys k
get_right [] ys k = ap (slice_get ys) (omega arith)
get_right (x ∷ xs) ys k = let on : length (x ∷ xs) + k ≡ suc (length xs + k) = omega arith in ap (slice_get (x ∷ (xs ++ ys))) on ∙ get_right xs ys k

module _ (window : Window) (worker stage place : ℕ) (own : worker_of window.workers stage ≡ worker) (within : place < pieces_before window stage) where
  pub into_get : (t : ℕ) → stage < t → slice_get (pieces_into window worker t) (length (pieces_into window worker stage) + place) ≡ Some (piece_at stage (list_before_stage window stage) place)
  into_get zero below = absurd (omega arith)
  into_get (suc t) below = elim (cases_lt stage t) [
    | inl earlier ↦ get_left (pieces_into window worker t) (pieces_at window worker t) _ _ (into_get t earlier)
    | inr last ↦
        let same : t ≡ stage = omega (arith, below, last) in
        subst (λ (n : ℕ). slice_get (pieces_into window worker n ++ pieces_at window worker n) (length (pieces_into window worker stage) + place) ≡ Some (piece_at stage (list_before_stage window stage) place)) (sym same)
        (ap (λ (more : List Part). slice_get (pieces_into window worker stage ++ more) (length (pieces_into window worker stage) + place)) (at_own window worker stage own)
        ∙ (get_right (pieces_into window worker stage) (pieces stage (list_before_stage window stage)) place
        ∙ (get_within (piece_at stage (list_before_stage window stage)) 0 (pieces_before window stage) place within ∙ ap (λ (k : ℕ). Some (piece_at stage (list_before_stage window stage) k)) (omega arith))))
  ]

-- the piece at its place of the stream
pub stream_has : (edge : EdgeInto) (stage place : ℕ) → worker_of edge.window.workers stage ≡ edge.worker → stage ≤ length edge.window.batches → place < pieces_before edge.window stage
    → slice_get (edge_stream edge) (length (pieces_into edge.window edge.worker stage) + place) ≡ Some (piece_at stage (list_before_stage edge.window stage) place)
unfolding edge_stream
stream_has edge stage place own inside within = into_get edge.window edge.worker stage place own within (length edge.window.batches + 1) (omega arith)

pub at_most : (b : Bool) (ps : List Part) (n : ℕ) → length ps ≤ n → length (cond b ps []) ≤ n
at_most true ps n few = few
at_most false ps n few = omega arith

-- a stream is short where each list is
pub into_short : (window : Window) (worker : ℕ) → ((stage : ℕ) → stage ≤ length window.batches → pieces_before window stage ≤ 1024) → (t : ℕ) → t ≤ length window.batches + 1 → length (pieces_into window worker t) ≤ t * 1024
into_short window worker few zero within = omega arith
into_short window worker few (suc t) within =
    let before = into_short window worker few t (omega arith) in
    let here : length (pieces_at window worker t) ≤ 1024 = at_most (nat_eq (worker_of window.workers t) worker) (pieces t (list_before_stage window t)) 1024 (omega (arith, length-pieces window t, few t (omega arith))) in
    omega (arith, before, here, length-append (pieces_into window worker t) (pieces_at window worker t))
