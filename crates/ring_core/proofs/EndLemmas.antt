-- A ring whose stages have all ended.
use Rattle.std.proofs.Common.{◌≡◌, ◌<◌, ◌≤◌, ◌+◌, ◌-◌, ◌*◌, ◌/◌, ℕ, zero, suc, List, [], ◌∷◌, ◌++◌, length, Some, slice_get, refl, sym, ap, ◌∙◌, arith}
use Rattle.std.proofs.lemmas.Nat.{div-add-mod'}
use Rattle.std.proofs.lemmas.Option.{slice_get_within}
use Rattle.greedy_rules.specs.Batches.{DemandBatch}
use Rattle.ring_core.specs.States.{RingState, WorkerState}
use Rattle.ring_core.specs.Windows.{Window, worker_of, worker_after}
use Rattle.ring_core.specs.Streams.{pieces_at, pieces_into, edge_stream}
use Rattle.ring_core.specs.Workers.{own_stage}
use Rattle.ring_core.specs.Edges.{between, taken_of, sent_on_edge}
use Rattle.ring_core.specs.Cores.{IsPlaying, IsFinished, HoldsTheLastList, window_in}
use Rattle.ring_core.proofs.StreamLemmas.{own_here, own_not, next_own, after_small, after_last, into_other}

-- where its next stage is no further than the workers' number, none of its own lies before it
pub into_back : (window : Window) (worker s d : ℕ) → worker < window.workers → worker_of window.workers s ≡ worker → d < window.workers → d ≤ s → pieces_into window worker s ≡ pieces_into window worker (s - d)
into_back window worker s zero below own near within = ap (pieces_into window worker) (let q : s ≡ s - 0 = omega arith in q)
into_back window worker s (suc d) below own near within =
    let here : ℕ = s - suc d in
    let on : s - d ≡ suc here = omega (arith, within) in
    let place : ℕ = here / window.workers in
    let apart : worker_of window.workers here ≡ worker → ⊥ = λ is.
    let same : own_stage window.workers worker place ≡ here = ap (λ (n : ℕ). place * window.workers + n) (sym is) ∙ div-add-mod' here window.workers in
    let there : own_stage window.workers worker place + suc d ≡ s = omega (arith, same, within) in
    own_not window.workers worker place (suc d) below (omega arith) near (ap (worker_of window.workers) there ∙ own) in
    into_back window worker s d below own (omega (arith, near)) (omega (arith, within)) ∙ (ap (pieces_into window worker) on ∙ into_other window worker here apart)

pub between_back : {A : Type 0} (xs ys : List A) (n m : ℕ) → n ≡ length xs → m ≡ length (xs ++ ys) → between n m (xs ++ ys) ≡ ys
between_back [] [] zero zero is all = refl
between_back [] [] zero (suc m) is all = absurd (omega (arith, all))
between_back [] (y ∷ ys) zero zero is all = absurd (omega (arith, all))
between_back {A} [] (y ∷ ys) zero (suc m) is all = ap (λ (zs : List A). y ∷ zs) (between_back [] ys zero m refl (omega (arith, all)))
between_back [] ys (suc n) m is all = absurd (omega (arith, is))
between_back (x ∷ xs) ys zero m is all = absurd (omega (arith, is))
between_back (x ∷ xs) ys (suc n) zero is all = absurd (omega (arith, all))
between_back (x ∷ xs) ys (suc n) (suc m) is all = between_back xs ys n m (omega (arith, is)) (omega (arith, all))

pub get_some : {X : Type 0} (xs : List X) (k : ℕ) → k < length xs → (x : X) × (slice_get xs k ≡ Some x)
get_some [] k below = absurd (omega arith)
get_some (x ∷ xs) zero below = (x, refl)
get_some (x ∷ xs) (suc k) below = get_some xs k (omega arith)

-- the worker before another
pub before_of : (workers number : ℕ) → number < workers → (before : ℕ) × (before < workers) × (worker_after workers before ≡ number)
before_of workers zero below = (workers - 1, omega (arith, below), after_last workers (workers - 1) (omega (arith, below)) (omega (arith, below)))
before_of workers (suc number) below = (number, omega (arith, below), after_small workers number (omega (arith, below)) ∙ (let q : number + 1 ≡ suc number = omega arith in q))

module _ (batches : List DemandBatch) (core : RingState) (playing : IsPlaying batches core) (finished : IsFinished core) where
  abbrev window : Window
  window = window_in batches core

  pub worker_at : (number : ℕ) → number < core.workers → (w : WorkerState) × (slice_get core.crew number ≡ Some w)
  worker_at number below = get_some core.crew number (omega (arith, below, playing.ring.worker_count))

  pub ended : (number : ℕ) (w : WorkerState) → slice_get core.crew number ≡ Some w → length batches ≤ w.stage
  ended number w is = omega (arith, finished number w is, playing.stages)

  -- all that is brought to a worker, but for the last list, was taken
  pub all_taken : (number : ℕ) (w : WorkerState) → slice_get core.crew number ≡ Some w → number < core.workers → length batches ≤ w.stage → taken_of (slice_get core.edges number) ≡ length (pieces_into window number (length batches))
  all_taken number w is below past =
      let it = playing.ring.each number w is in
      let plays = playing.plays number w is in
      let played = plays.2 in
      let own : worker_of core.workers w.stage ≡ number =
      (λ i. worker_of (sym it.workers_is i) w.stage) ∙ (ap (worker_of w.workers) played.stage ∙ (own_here w.workers w.number w.place played.is_worker.number ∙ it.number_is)) in
      let d : ℕ = w.stage - length batches in
      let back = into_back window number w.stage d below own (omega (arith, played.near, it.workers_is, past, playing.ring.some_workers)) (omega (arith, past)) in
      let at : w.stage - d ≡ length batches = omega (arith, past) in
      let none = (played.past past).0 in
      played.taken
      ∙ (played.taken_is
      ∙ ((λ i. length (pieces_into window (it.number_is i) w.stage) + none i)
      ∙ ((let q : length (pieces_into window number w.stage) + 0 ≡ length (pieces_into window number w.stage) = omega arith in q) ∙ ap length (back ∙ ap (pieces_into window number) at))))

  -- and all is sent
  pub all_sent : (number before : ℕ) (w : WorkerState) → slice_get core.crew before ≡ Some w → before < core.workers → number < core.workers → worker_after core.workers before ≡ number → length batches ≤ w.stage
      → sent_on_edge (slice_get core.edges number) ≡ length (pieces_into window number (length batches + 1))
  all_sent number before w is below within after past =
      let it = playing.ring.each before w is in
      let plays = playing.plays before w is in
      let played = plays.2 in
      let next : worker_after w.workers w.number ≡ number = (λ i. worker_after (it.workers_is i) (it.number_is i)) ∙ after in
      let own : worker_of core.workers (w.stage + 1) ≡ number =
      (λ i. worker_of (sym it.workers_is i) (w.stage + 1)) ∙ (ap (λ (n : ℕ). worker_of w.workers (n + 1)) played.stage ∙ (next_own w.workers w.number w.place played.is_worker.number ∙ next)) in
      let d : ℕ = w.stage - length batches in
      let back = into_back window number (w.stage + 1) d within own (omega (arith, played.near, it.workers_is, past, playing.ring.some_workers)) (omega (arith, past)) in
      let at : w.stage + 1 - d ≡ length batches + 1 = omega (arith, past) in
      let none = (played.past past).1 in
      ap (λ (n : ℕ). sent_on_edge (slice_get core.edges n)) (sym after)
      ∙ (played.sent
      ∙ (played.sent_is
      ∙ ((λ i. length (pieces_into window (next i) (w.stage + 1)) + none i)
      ∙ ((let q : length (pieces_into window number (w.stage + 1)) + 0 ≡ length (pieces_into window number (w.stage + 1)) = omega arith in q) ∙ ap length (back ∙ ap (pieces_into window number) at)))))

  pub last_list : HoldsTheLastList batches core
  unfolding edge_stream
  last_list number edge is =
      let below : number < core.workers = omega (arith, slice_get_within core.edges number edge is, playing.ring.edge_count) in
      let before = before_of core.workers number below in
      let this = worker_at number below in
      let other = worker_at before.0 before.1 in
      let holds = playing.holds.each number edge is in
      let taken : edge.taken ≡ length (pieces_into window number (length batches)) = sym (ap taken_of is) ∙ all_taken number this.0 this.1 below (ended number this.0 this.1) in
      let sent : edge.sent ≡ length (pieces_into window number (length batches + 1)) =
      sym (ap sent_on_edge is) ∙ all_sent number before.0 other.0 other.1 before.1 below before.2 (ended before.0 other.0 other.1) in
      let on : length batches + 1 ≡ suc (length batches) = omega arith in
      let stream : pieces_into window number (length batches + 1) ≡ pieces_into window number (length batches) ++ pieces_at window number (length batches) = ap (pieces_into window number) on in
      holds.pieces ∙ (ap (between edge.taken edge.sent) stream ∙ between_back (pieces_into window number (length batches)) (pieces_at window number (length batches)) edge.taken edge.sent taken (sent ∙ ap length stream))
