-- A turn of one worker among those of a ring.
use Rattle.std.proofs.Common.{◌≡◌, ◌≢◌, ◌<◌, ℕ, List, get_or, set, Some, slice_get, sym, ap, ◌∙◌, subst, arith, inl, inr, length-set}
use Rattle.std.proofs.lemmas.Bool.{cases_lt}
use Rattle.std.proofs.lemmas.Option.{slice_get_read, slice_get_within}
use Rattle.greedy_rules.specs.Batches.{DemandBatch}
use Rattle.ring_core.specs.States.{EdgeState, RingState, WorkerState}
use Rattle.ring_core.specs.Windows.{worker_after}
use Rattle.ring_core.specs.Ends.{WorkerEnds}
use Rattle.ring_core.specs.Workers.{Plays, IsSameWorker}
use Rattle.ring_core.specs.Edges.{AllHold, OthersStay, ends_between, taken_at, sent_at}
use Rattle.ring_core.specs.Cores.{IsRing, IsWorkerOf, IsPlaying, window_in, ends_in}
use Rattle.ring_core.proofs.StreamLemmas.{after_once}
use Rattle.ring_core.proofs.PlayLemmas.{get_set_same, get_set_other}

module _ (batches : List DemandBatch) (core : RingState) (number : ℕ) (old new : WorkerState) (after : List EdgeState) (playing : IsPlaying batches core) (below : number < core.workers)
    (is : old ≡ get_or core.crew number old) (same : IsSameWorker old new) where
  abbrev pub next : RingState
  next = record core { edges = after; crew = set core.crew number new }

  pub here : slice_get core.crew number ≡ Some old
  here = slice_get_read core.crew core.workers number old (sym playing.ring.worker_count) below is

  -- its two ends
  pub plays_here : Plays batches (ends_in batches core number) old
  plays_here = playing.plays number old here

  one_of : (P : ℕ → WorkerState → Type 0) → P number new → ((k : ℕ) (w : WorkerState) → k ≢ number → slice_get core.crew k ≡ Some w → P k w) → (k : ℕ) (w : WorkerState) → slice_get (set core.crew number new) k ≡ Some w → P k w
  one_of P this others k w there = elim (cases_lt k number) [
    | inl before ↦ others k w (λ q. omega (arith, q, before)) (sym (get_set_other core.crew number k new (λ q. omega (arith, q, before))) ∙ there)
    | inr past ↦ elim (cases_lt number k) [
      | inl beyond ↦ others k w (λ q. omega (arith, q, beyond)) (sym (get_set_other core.crew number k new (λ q. omega (arith, q, beyond))) ∙ there)
      | inr not_beyond ↦
          let at : k ≡ number = omega (arith, past, not_beyond) in
          subst (λ (n : ℕ). P n w) (sym at) (subst (P number) (sym (get_set_same core.crew number new w (ap (slice_get (set core.crew number new)) (sym at) ∙ there))) this)
    ]
  ]

  pub ring_on : OthersStay number (worker_after core.workers number) core.edges after → Plays batches (ends_between (window_in batches core) after number (worker_after core.workers number)) new → IsRing next
  ring_on others plays =
      let was = playing.ring.each number old here in
      let this : IsWorkerOf next number new = record {
        is_worker = plays.2.is_worker;
        number_is = same.same_number ∙ was.number_is;
        workers_is = same.same_workers ∙ was.workers_is;
        endpoints_is = same.same_endpoints ∙ was.endpoints_is;
        batches_is = same.same_batches ∙ was.batches_is;
        b_is = same.same_b ∙ was.b_is;
      } in
      record {
        some_workers = playing.ring.some_workers;
        few_workers = playing.ring.few_workers;
        few_batches = playing.ring.few_batches;
        edge_count = others.count ∙ playing.ring.edge_count;
        worker_count = length-set core.crew number new ∙ playing.ring.worker_count;
        rooms = λ k within. others.rooms k ∙ playing.ring.rooms k within;
        each = one_of (IsWorkerOf next) this (λ k w other there. let it = playing.ring.each k w there in
            record { is_worker = it.is_worker; number_is = it.number_is; workers_is = it.workers_is; endpoints_is = it.endpoints_is; batches_is = it.batches_is; b_is = it.b_is });
      }

  pub playing_on : AllHold (window_in batches core) after → OthersStay number (worker_after core.workers number) core.edges after
      → Plays batches (ends_between (window_in batches core) after number (worker_after core.workers number)) new → IsPlaying batches next
  playing_on holds others plays = record {
    ring = ring_on others plays;
    stages = playing.stages;
    may = playing.may;
    short = playing.short;
    holds = holds;
    nodes = playing.nodes;
    plays = one_of (λ k w. Plays batches (ends_in batches next k) w)
        plays
        (λ k w other there.
        let within : k < core.workers = omega (arith, slice_get_within core.crew k w there, playing.ring.worker_count) in
        let taken : taken_at after k ≡ taken_at core.edges k = others.taken k other in
        let apart : worker_after core.workers k ≢ worker_after core.workers number = λ q. other (after_once core.workers k number within below q) in
        let sent : sent_at after (worker_after core.workers k) ≡ sent_at core.edges (worker_after core.workers k) = others.sent (worker_after core.workers k) apart in
        let ends : ends_in batches core k ≡ ends_in batches next k =
        λ i. record { before = record { window = window_in batches core; worker = k }; after = record { window = window_in batches core; worker = worker_after core.workers k }; taken = sym taken i; sent = sym sent i } in
        subst (λ (e : WorkerEnds). Plays batches e w) ends (playing.plays k w there));
  }

-- as many nodes are spare
pub spare_on : (batches : List DemandBatch) (core : RingState) (spare : ℕ) → core.spare ≡ spare → IsPlaying batches core → IsPlaying batches (record core { spare = spare })
spare_on batches core spare is playing = subst (λ (n : ℕ). IsPlaying batches (record core { spare = n })) is playing
