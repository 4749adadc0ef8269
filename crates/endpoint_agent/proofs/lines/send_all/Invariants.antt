use Rattle.std.proofs.Common.{◌≡◌, ℕ, ◌+◌, ◌++◌, ◌==◌, ◌≤◌, length, drop}
use Rattle.std.specs.Prelude.{count_by}
use Rattle.endpoint_history.specs.Sending.{Slot, sent_of}
use Rattle.endpoint_agent.specs.State.{line_at}
use Rattle.endpoint_agent.specs.Lines.{slots_sent, with_sent, slots_from_first, left_in}
use Rattle.endpoint_agent.proofs.lines.send_all.Given as goal

abbrev pub invariant-loop-slot : goal.invariant-loop-slot
invariant-loop-slot l = record {
  whole : length l.lines ≡ length l.initial.lines;
  few : length l.into.items ≤ length l.initial.into.items + l.slot-index;
  sent : slots_sent l.into.items ++ sent_of (left_in l.lines) (slots_from_first l.first_slot (drop l.slot-index l.told))
      ≡ slots_sent l.initial.into.items ++ sent_of (left_in l.initial.lines) (slots_from_first l.first_slot l.told);
  counted : (dst : ℕ) →
      with_sent (count_by (λ (s : Slot). s.dst == dst) (sent_of (left_in l.lines) (slots_from_first l.first_slot (drop l.slot-index l.told)))) (line_at l.lines dst)
      ≡ with_sent (count_by (λ (s : Slot). s.dst == dst) (sent_of (left_in l.initial.lines) (slots_from_first l.first_slot l.told))) (line_at l.initial.lines dst);
}
