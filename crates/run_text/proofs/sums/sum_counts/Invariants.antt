use Rattle.std.proofs.Common.{◌≡◌, ◌*◌}
use Rattle.std.specs.List.{flat_map, range_with_len}
use Rattle.clos_topology.specs.Network.{endpoints_of}
use Rattle.clos_topology.specs.NetSlots.{SlotCores}
use Rattle.run_text.specs.Made.{sums_of, counts_from}
use Rattle.run_text.specs.Sums.{AreOfAtMost}
use Rattle.window_engine.specs.Standing.{StandsForReplay, run_of}
use Rattle.run_text.proofs.sums.sum_counts.Given as goal

abbrev pub invariant-loop-src : goal.invariant-loop-src
invariant-loop-src l = record {
  sums : (cores : SlotCores) → StandsForReplay l.trace cores l.replay → l.sums ≡ sums_of (flat_map (counts_from (run_of l.trace cores l.replay) l.trace.rounds) (range_with_len 0 l.src));
  most : AreOfAtMost (l.src * endpoints_of l.trace.net) l.sums;
}
