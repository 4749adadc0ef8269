use Rattle.std.proofs.Common.{◌≡◌, map, take}
use Rattle.std.specs.List.{flat_map}
use Rattle.clos_topology.specs.Network.{endpoints_of}
use Rattle.trace_text.specs.Trace.{raw_at}
use Rattle.replay_rounds.specs.Setting.{raw_rows}
use Rattle.replay_rounds.specs.Collecting.{framed_answer}
use Rattle.replay_rounds.proofs.Naming.{named_by}
use Rattle.replay_rounds.proofs.raw.read_raw.Given as goal

abbrev pub invariant-loop-at : goal.invariant-loop-at
invariant-loop-at l = record {
  named : l.named.items ≡ flat_map (named_by (endpoints_of l.trace.net)) (take l.at (raw_rows l.trace l.round));
  answers : l.answers.items ≡ map (framed_answer (endpoints_of l.trace.net)) (take l.at (raw_at l.trace l.round));
}
