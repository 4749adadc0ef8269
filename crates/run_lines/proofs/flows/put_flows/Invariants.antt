use Rattle.clos_topology.specs.Network.{endpoints_of}
use Rattle.run_lines.specs.Text.{text_of, flow_lines, each_source}
use Rattle.text_output.specs.Output.{Passed}
use Rattle.run_lines.proofs.flows.put_flows.Given as goal

abbrev pub invariant-loop-src : goal.invariant-loop-src
invariant-loop-src g l =
    Passed l.initial.output l.output (text_of (each_source (flow_lines l.engine.b l.trace) (endpoints_of l.trace.net) 0 l.src))
