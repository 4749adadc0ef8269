use Rattle.std.proofs.Common.{◌≡◌, map, take}
use Rattle.trace_text.specs.Trace.{raw_at}
use Rattle.replay_rounds.proofs.Naming.{row_of}
use Rattle.replay_rounds.proofs.handed.fill_raw.Given as goal

abbrev pub invariant-loop-one : goal.invariant-loop-one
invariant-loop-one l = l.raw ≡ map (row_of (raw_at l.trace l.round)) (take l.one-index l.own)
