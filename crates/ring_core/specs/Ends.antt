-- What the two ends of a worker say (this project's own profile).
use Rattle.std.specs.Prelude.{ℕ, ◌+◌}
use Rattle.ring_core.specs.Streams.{EdgeInto}

-- the edge before the worker, the edge after it, and the worker's positions on them: how many pieces it has taken of the
-- first, and how many were sent into the second
pub record WorkerEnds : Type 0 where
  pub before : EdgeInto
  pub after : EdgeInto
  pub taken : ℕ
  pub sent : ℕ

abbrev pub one_taken : WorkerEnds → WorkerEnds
one_taken ends = record { before = ends.before; after = ends.after; taken = ends.taken + 1; sent = ends.sent }

abbrev pub one_sent : WorkerEnds → WorkerEnds
one_sent ends = record { before = ends.before; after = ends.after; taken = ends.taken; sent = ends.sent + 1 }
