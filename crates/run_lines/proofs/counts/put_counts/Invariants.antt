use Rattle.clos_topology.specs.Network.{endpoints_of}
use Rattle.clos_topology.specs.NetSlots.{SlotCores}
use Rattle.window_engine.specs.Standing.{StandsForReplay, run_of}
use Rattle.run_lines.specs.Text.{text_of, count_lines, each_source}
use Rattle.text_output.specs.Output.{Passed}
use Rattle.run_lines.proofs.counts.put_counts.Given as goal

abbrev pub invariant-loop-src : goal.invariant-loop-src
invariant-loop-src g l =
    (cores : SlotCores) → StandsForReplay l.trace cores l.engine →
    Passed l.initial.output l.output (text_of (each_source (count_lines (run_of l.trace cores l.engine) l.trace) (endpoints_of l.trace.net) 0 l.src))
