-- A worker that stands where it stood.
use Rattle.std.proofs.Common.{◌≡◌, ◌<◌, ◌≤◌, ◌+◌, ◌-◌, ℕ, List, length, Option, None, inl, inr, sym, ◌∙◌, subst}
use Rattle.std.specs.Prelude.{IsSome}
use Rattle.greedy_rules.specs.Batches.{DemandBatch}
use Rattle.slot_batches.specs.Pieces.{Part}
use Rattle.ring_core.specs.States.{WorkerState}
use Rattle.ring_core.specs.declared.turn.Turn.{Turn}
use Rattle.ring_core.specs.declared.turn.Turn.TheVariants.{Moved, NoPiece, NoRoom, Done}
use Rattle.ring_core.specs.Windows.{worker_after, piece_given_next}
use Rattle.ring_core.specs.Streams.{pieces_into}
use Rattle.ring_core.specs.Ends.{WorkerEnds}
use Rattle.ring_core.specs.Workers.{IsAt}
use Rattle.ring_core.specs.Turns.{fed_at, given_at, piece_to_push, TurnAnswers}

pub pushes_same : (ends : WorkerEnds) (w v : WorkerState) → IsAt w v → piece_to_push ends v ≡ piece_to_push ends w
pushes_same ends w v same =
    let fed : fed_at ends v ≡ fed_at ends w = λ i. fed_from ends (same.same_number i) (same.same_stage i) in
    let given : given_at ends v ≡ given_at ends w = λ i. given_from ends (same.same_workers i) (same.same_number i) (same.same_stage i) in
    λ i. piece_given_next ends.before.window (same.same_stage i) (fed i) (given i)
  where
    fed_from : WorkerEnds → ℕ → ℕ → ℕ
    fed_from ends number stage = ends.taken - length (pieces_into ends.before.window number stage)

    given_from : WorkerEnds → ℕ → ℕ → ℕ → ℕ
    given_from ends workers number stage = ends.sent - length (pieces_into ends.before.window (worker_after workers number) (stage + 1))

module _ (batches : List DemandBatch) (w v : WorkerState) (same : IsAt w v) (old new : WorkerEnds) (empty full : ℕ → Type 0) where
  within : v.stage < length batches → w.stage < length batches
  within below = subst (λ (n : ℕ). n < length batches) same.same_stage below

  none : piece_to_push old v ≡ None → piece_to_push old w ≡ None
  none is = sym (pushes_same old w v same) ∙ is

  some : IsSome (piece_to_push old v) → IsSome (piece_to_push old w)
  some is = subst (λ (p : Option Part). IsSome p) (pushes_same old w v same) is

  pub answers_same : (t : Turn) → TurnAnswers batches v old new empty full t → TurnAnswers batches w old new empty full t
  answers_same Moved (below, inl (is, moved)) = (within below, inl (none is, moved))
  answers_same Moved (below, inr (is, moved)) = (within below, inr (some is, moved))
  answers_same (NoPiece at) (below, is, at_is, stays, found) = (within below, none is, at_is, stays, found)
  answers_same (NoRoom at) (below, is, at_is, stays, found) = (within below, some is, at_is, stays, found)
  answers_same Done (ended, rest) = (subst (λ (n : ℕ). length batches ≤ n) same.same_stage ended, rest)

-- where a turn finds its worker done, all its stages have ended
pub done_ended : (batches : List DemandBatch) (w : WorkerState) (old new : WorkerEnds) (empty full : ℕ → Type 0) (turn : Turn) → TurnAnswers batches w old new empty full turn → turn ≡ Done → length batches ≤ w.stage
done_ended batches w old new empty full Moved told is = absurd (cc)
done_ended batches w old new empty full (NoPiece at) told is = absurd (cc)
done_ended batches w old new empty full (NoRoom at) told is = absurd (cc)
done_ended batches w old new empty full Done told is = told.0
