use Rattle.std.proofs.Common.{◌≡◌, ◌≤◌, ◌++◌, List, ℕ, length}
use Rattle.std.specs.Io.KnownBytes.{Appends}
use Rattle.text_output.proofs.transfer.write_all.Given as goal

abbrev pub invariant-loop-rest : goal.invariant-loop-rest
invariant-loop-rest g l = (g.K.Sink.faults l.initial.sink ≤ g.K.Sink.faults l.sink) × ((front : List ℕ) × (l.piece ≡ front ++ l.rest) × Appends (g.K.Sink.held l.initial.sink) (g.K.Sink.held l.sink) front)

abbrev pub decreases-loop-rest : goal.decreases-loop-rest
decreases-loop-rest g l = length l.rest
