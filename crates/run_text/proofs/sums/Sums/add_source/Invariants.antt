use Rattle.std.proofs.Common.{◌≡◌, ◌+◌, ◌*◌, List, ◌++◌}
use Rattle.clos_topology.specs.Network.{endpoints_of}
use Rattle.clos_topology.specs.NetSlots.{SlotCores}
use Rattle.window_engine.specs.declared.counts.Counts.{Counts}
use Rattle.run_text.specs.Made.{sums_of, counts_to}
use Rattle.run_text.specs.Sums.{AreOfAtMost}
use Rattle.window_engine.specs.Standing.{StandsForReplay, run_of}
use Rattle.run_text.proofs.sums.Sums.add_source.Given as goal

abbrev pub invariant-loop-dst : goal.invariant-loop-dst
invariant-loop-dst l = record {
  sums : (cores : SlotCores) (all : List Counts) → StandsForReplay l.trace cores l.replay → l.initial.self ≡ sums_of all →
      l.self ≡ sums_of (all ++ counts_to (run_of l.trace cores l.replay) l.trace.rounds l.src l.dst);
  most : AreOfAtMost (l.src * endpoints_of l.trace.net + l.dst) l.self;
}
