-- Where a worker has ended, its edges are at their ends.
use Rattle.std.proofs.Common.{◌≡◌, ◌≢◌, ◌<◌, ◌+◌, ◌-◌, ℕ, suc, List, length, sym, ap, ◌∙◌, subst, arith}
use Rattle.std.proofs.lemmas.Nat.{mod_below}
use Rattle.greedy_rules.specs.Batches.{DemandBatch}
use Rattle.ring_core.specs.States.{WorkerState}
use Rattle.ring_core.specs.Windows.{Window, worker_of, worker_after}
use Rattle.ring_core.specs.Streams.{EdgeInto, pieces_into, edge_stream}
use Rattle.ring_core.specs.Ends.{WorkerEnds}
use Rattle.ring_core.specs.Workers.{Plays, HasEnded}
use Rattle.ring_core.proofs.StreamLemmas.{own_here, next_own, into_other}
use Rattle.ring_core.proofs.EndLemmas.{into_back}

module _ (batches : List DemandBatch) (ends : WorkerEnds) (w : WorkerState) (plays : Plays batches ends w) (past : HasEnded batches w) where
  abbrev window : Window
  window = ends.before.window

  same_workers : window.workers ≡ w.workers
  same_workers = plays.2.window.workers_are

  -- all that is brought to it, but for the list that the window leaves, was taken
  pub taken_all : ends.taken ≡ length (pieces_into window w.number (length batches))
  taken_all =
      let played = plays.2 in
      let own : worker_of window.workers w.stage ≡ w.number =
      (λ i. worker_of (same_workers i) w.stage) ∙ (ap (worker_of w.workers) played.stage ∙ own_here w.workers w.number w.place played.is_worker.number) in
      let d : ℕ = w.stage - length batches in
      let back = into_back window w.number w.stage d (omega (arith, played.is_worker.number, same_workers)) own (omega (arith, played.near, same_workers, past, played.is_worker.number)) (omega (arith, past)) in
      let at : w.stage - d ≡ length batches = omega (arith, past) in
      let none = (played.past past).0 in
      let count : length (pieces_into window w.number w.stage) ≡ length (pieces_into window w.number (length batches)) = ap length (back ∙ ap (pieces_into window w.number) at) in
      omega (arith, played.taken, played.taken_is, none, count)

  -- and all is sent
  pub sent_all : ends.sent ≡ length (edge_stream ends.after)
  unfolding edge_stream
  sent_all =
      let played = plays.2 in
      let next : ℕ = worker_after w.workers w.number in
      let own : worker_of window.workers (w.stage + 1) ≡ next =
      (λ i. worker_of (same_workers i) (w.stage + 1)) ∙ (ap (λ (n : ℕ). worker_of w.workers (n + 1)) played.stage ∙ next_own w.workers w.number w.place played.is_worker.number) in
      let d : ℕ = w.stage - length batches in
      let below : next < window.workers = subst (λ (n : ℕ). next < n) (sym same_workers) (after_below w.workers w.number played.is_worker.number) in
      let back = into_back window next (w.stage + 1) d below own (omega (arith, played.near, same_workers, past, played.is_worker.number)) (omega (arith, past)) in
      let at : w.stage + 1 - d ≡ length batches + 1 = omega (arith, past) in
      let none = (played.past past).1 in
      let count : length (pieces_into window next (w.stage + 1)) ≡ length (pieces_into window next (length batches + 1)) = ap length (back ∙ ap (pieces_into window next) at) in
      let all : length (pieces_into window next (length window.batches + 1)) ≡ length (edge_stream ends.after) = ap (λ (e : EdgeInto). length (edge_stream e)) (sym played.after) in
      let same : length batches ≡ length window.batches = ap length (sym played.window.batches_are) in
      let here : length (pieces_into window next (length batches + 1)) ≡ length (pieces_into window next (length window.batches + 1)) = ap (λ (n : ℕ). length (pieces_into window next (n + 1))) same in
      omega (arith, played.sent, played.sent_is, none, count, here, all)
    where
      after_below : (workers number : ℕ) → number < workers → worker_after workers number < workers
      after_below workers number below = mod_below (number + 1) workers (omega (arith, below))

  -- where the list that the window leaves goes to another worker, nothing is left
  pub none_left : worker_of window.workers (length batches) ≢ w.number → ends.taken ≡ length (edge_stream (record { window = window; worker = w.number }))
  unfolding edge_stream
  none_left other =
      let same : length batches ≡ length window.batches = ap length (sym plays.2.window.batches_are) in
      let on : suc (length batches) ≡ length window.batches + 1 = omega (arith, same) in
      taken_all ∙ (sym (ap length (into_other window w.number (length batches) other)) ∙ ap (λ (n : ℕ). length (pieces_into window w.number n)) on)
