-- Which worker of a ring can move, and that it then does.
use Rattle.std.proofs.Common.{◌≡◌, ◌<◌, ◌≤◌, ◌+◌, ◌*◌, ℕ, List, length, Some, None, slice_get, refl, sym, ap, ◌∙◌, arith, inl, inr}
use Rattle.std.proofs.lemmas.Bool.{cases_lt, cases_eq}
use Rattle.std.proofs.lemmas.Nat.{mod_below}
use Rattle.std.proofs.lemmas.Option.{slice_get_within, same_Some}
use Rattle.greedy_rules.specs.Batches.{DemandBatch}
use Rattle.ring_core.specs.States.{EdgeState, RingState, WorkerState}
use Rattle.ring_core.specs.declared.turn.Turn.{Turn}
use Rattle.ring_core.specs.declared.turn.Turn.TheVariants.{Moved, NoPiece, NoRoom, Done}
use Rattle.ring_core.specs.Windows.{Window, pieces_before, worker_of, worker_after}
use Rattle.ring_core.specs.Streams.{pieces_into}
use Rattle.ring_core.specs.Ends.{WorkerEnds}
use Rattle.ring_core.specs.Turns.{TurnAnswers, piece_to_push}
use Rattle.ring_core.specs.Edges.{OthersStay, IsFoundEmpty, IsFoundFull, taken_at, sent_at, room_at, ends_between}
use Rattle.ring_core.specs.Cores.{IsPlaying, IsGoing, HasRoomForTwo, IsFree, window_in, ends_in}
use Rattle.ring_core.proofs.CountLemmas.{into_up, into_past, into_most}
use Rattle.ring_core.proofs.StreamLemmas.{own_here}
use Rattle.ring_core.proofs.FeedLemmas.{fed_more}
use Rattle.ring_core.proofs.EndLemmas.{get_some, before_of}

-- of the workers before a place none is at an earlier stage
abbrev pub IsLeast : List WorkerState → ℕ → ℕ → Type 0
IsLeast crew least upto = (k : ℕ) (w v : WorkerState) → k < upto → slice_get crew k ≡ Some w → slice_get crew least ≡ Some v → v.stage ≤ w.stage

pub first_least : (crew : List WorkerState) → IsLeast crew 0 1
first_least crew k w v below is least_is =
    let at : k ≡ 0 = omega (arith, below) in
    let same : v ≡ w = same_Some v w (sym least_is ∙ (ap (slice_get crew) (sym at) ∙ is)) in
    omega (arith, ap (λ (x : WorkerState). x.stage) same)

pub next_least : (crew : List WorkerState) (least number : ℕ) (a b : WorkerState) → slice_get crew least ≡ Some b → slice_get crew number ≡ Some a → a.stage < b.stage → IsLeast crew least number → IsLeast crew number (number + 1)
next_least crew least number a b least_is number_is behind was k w v below is there = elim (cases_lt k number) [
  | inl before ↦ omega (arith, was k w b before is least_is, behind, ap (λ (x : WorkerState). x.stage) (same_Some a v (sym number_is ∙ there)))
  | inr past ↦
      let at : k ≡ number = omega (arith, below, past) in
      omega (arith, ap (λ (x : WorkerState). x.stage) (same_Some v w (sym there ∙ (ap (slice_get crew) (sym at) ∙ is))))
]

pub same_least : (crew : List WorkerState) (least number : ℕ) (a b : WorkerState) → slice_get crew least ≡ Some b → slice_get crew number ≡ Some a → b.stage ≤ a.stage → IsLeast crew least number → IsLeast crew least (number + 1)
same_least crew least number a b least_is number_is not_behind was k w v below is there = elim (cases_lt k number) [
  | inl before ↦ was k w v before is there
  | inr past ↦
      let at : k ≡ number = omega (arith, below, past) in
      let this = ap (λ (x : WorkerState). x.stage) (same_Some a w (sym number_is ∙ (ap (slice_get crew) (sym at) ∙ is))) in
      let best = ap (λ (x : WorkerState). x.stage) (same_Some b v (sym least_is ∙ there)) in
      omega (arith, this, best, not_behind)
]

-- the worker of the earliest stage
module _ (batches : List DemandBatch) (core : RingState) (playing : IsPlaying batches core) (rooms : HasRoomForTwo batches core) (going : IsGoing core) (number : ℕ) (v : WorkerState)
    (is : slice_get core.crew number ≡ Some v) (least : (k : ℕ) (w : WorkerState) → slice_get core.crew k ≡ Some w → v.stage ≤ w.stage) where
  abbrev window : Window
  window = window_in batches core

  below : number < core.workers
  below = omega (arith, slice_get_within core.crew number v is, playing.ring.worker_count)

  under : v.stage < length batches
  under = elim (cases_lt v.stage (length batches)) [
    | inl here ↦ here
    | inr past ↦ absurd (going (λ k w there. omega (arith, least k w there, past, playing.stages)))
  ]

  own : worker_of core.workers v.stage ≡ number
  own =
      let it = playing.ring.each number v is in
      let plays = playing.plays number v is in
      (λ i. worker_of (sym it.workers_is i) v.stage) ∙ (ap (worker_of v.workers) plays.2.stage ∙ (own_here v.workers v.number v.place plays.2.is_worker.number ∙ it.number_is))

  -- it finds a piece, since the stage before its own has ended
  finds : piece_to_push (ends_in batches core number) v ≡ None → taken_at core.edges number < sent_at core.edges number
  finds none =
      let it = playing.ring.each number v is in
      let plays = playing.plays number v is in
      let more = fed_more batches (ends_in batches core number) v plays.0 plays.1 plays.2 under none in
      let before = before_of core.workers number below in
      let other = get_some core.crew before.0 (omega (arith, before.1, playing.ring.worker_count)) in
      let theirs = playing.plays before.0 other.0 other.1 in
      let they = playing.ring.each before.0 other.0 other.1 in
      let next : worker_after other.0.workers other.0.number ≡ number = (λ i. worker_after (they.workers_is i) (they.number_is i)) ∙ before.2 in
      let sent : sent_at core.edges number ≡ length (pieces_into window number (other.0.stage + 1)) + theirs.1 =
      ap (sent_at core.edges) (sym before.2) ∙ (theirs.2.sent ∙ (theirs.2.sent_is ∙ ap (λ (n : ℕ). length (pieces_into window n (other.0.stage + 1)) + theirs.1) next)) in
      let taken : taken_at core.edges number ≡ length (pieces_into window number v.stage) + plays.0 =
      plays.2.taken ∙ (plays.2.taken_is ∙ ap (λ (n : ℕ). length (pieces_into window n v.stage) + plays.0) it.number_is) in
      let has = into_past window number v.stage (other.0.stage + 1) own (omega (arith, least before.0 other.0 other.1)) in
      omega (arith, more, sent, taken, has)

  -- it finds room, since the worker after it is at no earlier stage
  fits : sent_at core.edges (worker_after core.workers number) < taken_at core.edges (worker_after core.workers number) + core.room
  fits =
      let next : ℕ = worker_after core.workers number in
      let within : next < core.workers = mod_below (number + 1) core.workers playing.ring.some_workers in
      let it = playing.ring.each number v is in
      let plays = playing.plays number v is in
      let next_is : worker_after v.workers v.number ≡ next = λ i. worker_after (it.workers_is i) (it.number_is i) in
      let sent : sent_at core.edges next ≡ length (pieces_into window next (v.stage + 1)) + plays.1 =
      plays.2.sent ∙ (plays.2.sent_is ∙ ap (λ (n : ℕ). length (pieces_into window n (v.stage + 1)) + plays.1) next_is) in
      let other = get_some core.crew next (omega (arith, within, playing.ring.worker_count)) in
      let theirs = playing.plays next other.0 other.1 in
      let they = playing.ring.each next other.0 other.1 in
      let taken : taken_at core.edges next ≡ length (pieces_into window next other.0.stage) + theirs.0 =
      theirs.2.taken ∙ (theirs.2.taken_is ∙ ap (λ (n : ℕ). length (pieces_into window n other.0.stage) + theirs.0) they.number_is) in
      let most = into_most window next v.stage in
      let here = into_up window next v.stage other.0.stage (least next other.0 other.1) in
      let first : 2 * pieces_before window v.stage ≤ core.room = rooms v.stage (omega (arith, under)) in
      let second : 2 * pieces_before window (v.stage + 1) ≤ core.room = rooms (v.stage + 1) (omega (arith, under)) in
      let given : plays.1 < pieces_before window (v.stage + 1) = plays.2.given_within in
      omega (arith, sent, taken, most, here, first, second, given)

  pub least_is_free : IsFree batches core number v
  least_is_free = record { going = under; pops = finds; pushes = λ some. fits }

-- a worker that can move does
module _ (batches : List DemandBatch) (core : RingState) (playing : IsPlaying batches core) (number : ℕ) (w : WorkerState) (free : IsFree batches core number w) (new : List EdgeState)
    (others : OthersStay number (worker_after core.workers number) core.edges new) where
  abbrev after : ℕ
  after = worker_after core.workers number

  pub moves : (t : Turn) → TurnAnswers batches w (ends_in batches core number) (ends_between (window_in batches core) new number after) (IsFoundEmpty new number) (IsFoundFull new after) t → t ≡ Moved
  moves Moved told = refl
  moves (NoPiece at) (going, none, at_is, stays, found) =
      let taken : taken_at new number ≡ taken_at core.edges number = ap (λ (e : WorkerEnds). e.taken) stays in
      let sent : sent_at new after ≡ sent_at core.edges after = ap (λ (e : WorkerEnds). e.sent) stays in
      let same : sent_at new number ≡ sent_at core.edges number = elim (cases_eq number after) [
        | inl here ↦ ap (sent_at new) here ∙ (sent ∙ ap (sent_at core.edges) (sym here))
        | inr other ↦ others.sent number other
      ] in
      absurd (omega (arith, free.pops none, taken, same, found.0, found.1))
  moves (NoRoom at) (going, some, at_is, stays, found) =
      let within : after < core.workers = mod_below (number + 1) core.workers playing.ring.some_workers in
      let taken : taken_at new number ≡ taken_at core.edges number = ap (λ (e : WorkerEnds). e.taken) stays in
      let sent : sent_at new after ≡ sent_at core.edges after = ap (λ (e : WorkerEnds). e.sent) stays in
      let same : taken_at new after ≡ taken_at core.edges after = elim (cases_eq after number) [
        | inl here ↦ ap (taken_at new) here ∙ (taken ∙ ap (taken_at core.edges) (sym here))
        | inr other ↦ others.taken after other
      ] in
      let room : room_at new after ≡ core.room = others.rooms after ∙ playing.ring.rooms after within in
      absurd (omega (arith, free.pushes some, sent, same, room, found.0, found.1))
  moves Done (ended, rest) = absurd (omega (arith, ended, free.going))
