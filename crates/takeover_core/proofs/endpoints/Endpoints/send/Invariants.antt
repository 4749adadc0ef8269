use Rattle.std.proofs.Common.{◌≡◌, ◌+◌, ◌≤◌, ◌++◌, take, length}
use Rattle.takeover_history.specs.Endpoints.{own_sends}
use Rattle.takeover_core.specs.Sending.{sends_in, SendsAreCounted}
use Rattle.takeover_core.proofs.endpoints.Endpoints.send.Given as goal

abbrev pub invariant-loop-offset : goal.invariant-loop-offset
invariant-loop-offset l = record {
  sent : sends_in l.self.sent.items ≡ sends_in l.initial.self.sent.items ++ own_sends l.src l.first_slot (take l.offset l.slots.slots);
  few : length l.self.sent.items ≤ length l.initial.self.sent.items + l.offset;
  counted : SendsAreCounted l.self.counts l.self.sent.items;
  endpoints : l.self.counts.endpoints ≡ l.initial.self.counts.endpoints;
  generations : l.self.generations.items ≡ l.initial.self.generations.items;
  asked : l.self.asked ≡ l.initial.self.asked;
  base : l.self.base ≡ l.initial.self.base;
}
