-- What a turn of a worker tells (this project's own profile).
use Rattle.std.specs.Prelude.{◌≡◌, ◌⊎◌, ◌<◌, ℕ, ◌+◌, ◌-◌, List, length, Option, None, IsSome}
use Rattle.greedy_rules.specs.Batches.{DemandBatch}
use Rattle.slot_batches.specs.Pieces.{Part}
use Rattle.ring_core.specs.States.{WorkerState}
use Rattle.ring_core.specs.declared.turn.Turn.{Turn}
use Rattle.ring_core.specs.declared.turn.Turn.TheVariants.{Moved, NoPiece, NoRoom, Done}
use Rattle.ring_core.specs.Windows.{worker_after, piece_given_next}
use Rattle.ring_core.specs.Streams.{pieces_into}
use Rattle.ring_core.specs.Ends.{WorkerEnds, one_taken, one_sent}
use Rattle.ring_core.specs.Workers.{HasEnded}

-- how many pieces of its list the worker's present stage was fed, and how many of the next were sent
abbrev pub fed_at : WorkerEnds → WorkerState → ℕ
fed_at ends worker = ends.taken - length (pieces_into ends.before.window worker.number worker.stage)

abbrev pub given_at : WorkerEnds → WorkerState → ℕ
given_at ends worker = ends.sent - length (pieces_into ends.before.window (worker_after worker.workers worker.number) (worker.stage + 1))

-- the piece that the worker has to push, if there is one: the one that was refused, or else the one that its stage gives next
abbrev pub piece_to_push : WorkerEnds → WorkerState → Option Part
piece_to_push ends worker = piece_given_next ends.before.window worker.stage (fed_at ends worker) (given_at ends worker)

-- what the answer of a turn says of the ends before and after it
abbrev pub TurnAnswers : List DemandBatch → WorkerState → WorkerEnds → WorkerEnds → (ℕ → Type 0) → (ℕ → Type 0) → Turn → Type 0
TurnAnswers batches worker old new empty full Moved =
    (worker.stage < length batches) × (((piece_to_push old worker ≡ None) × (new ≡ one_taken old)) ⊎ (IsSome (piece_to_push old worker) × (new ≡ one_sent old)))
TurnAnswers batches worker old new empty full (NoPiece at) = (worker.stage < length batches) × (piece_to_push old worker ≡ None) × (at ≡ old.taken) × (new ≡ old) × empty at
TurnAnswers batches worker old new empty full (NoRoom at) = (worker.stage < length batches) × IsSome (piece_to_push old worker) × (at ≡ old.sent) × (new ≡ old) × full at
TurnAnswers batches worker old new empty full Done = HasEnded batches worker × (new ≡ old)
