use Rattle.std.proofs.Common.{◌<◌, ◌≤◌, ◌+◌, ℕ}
use Rattle.slot_publisher.specs.Places.{ListTells}
use Rattle.slot_publisher.proofs.publisher.put_slot.Given as goal

abbrev pub invariant-loop-endpoint : goal.invariant-loop-endpoint
invariant-loop-endpoint l = record {
  told : (at : ℕ) → at < l.endpoint → ListTells l.slots l.cores l.from l.b (l.offset + 1) l.counts l.told at;
  rest : (at : ℕ) → l.endpoint ≤ at → at < l.slots.endpoints → ListTells l.slots l.cores l.from l.b l.offset l.counts l.told at;
}
