use Rattle.std.proofs.Common.{◌≡◌, ℕ, length, take}
use Rattle.endpoint_history.specs.Packets.{slots_to}
use Rattle.endpoint_agent.specs.State.{line_at}
use Rattle.endpoint_agent.specs.Lines.{with_missed}
use Rattle.endpoint_agent.proofs.lines.miss_all.Given as goal

abbrev pub invariant-loop-slot : goal.invariant-loop-slot
invariant-loop-slot l = record {
  whole : length l.lines ≡ length l.initial.lines;
  missed : (dst : ℕ) → line_at l.lines dst ≡ with_missed l.next (slots_to dst (take l.slot-index l.told)) (line_at l.initial.lines dst);
}
