use Rattle.std.proofs.Common.{◌≡◌, ℕ, ◌+◌, ◌++◌, length}
use Rattle.std.specs.Prelude.{vec_capacity}
use Rattle.rtrb.specs.Ring.{received, known_items, SameConsumer}
use Rattle.front_desk.specs.Standing.{HasRead}
use Rattle.front_desk.proofs.line.take_rest.Given as goal

abbrev pub invariant-loop : goal.invariant-loop
invariant-loop l = record {
  ring : SameConsumer l.fn.ring l.ring;
  all : received l.ring ++ known_items l.ring ≡ received l.fn.ring ++ known_items l.fn.ring;
  left : length (known_items l.ring) + l.counter ≡ l.left;
  read : (endpoint endpoints : ℕ) → HasRead endpoint endpoints l.fn.lane (received l.fn.ring) l.fn.answers.items → HasRead endpoint endpoints l.lane (received l.ring) l.answers.items;
  b : l.lane.b ≡ l.fn.lane.b;
  g : l.lane.g ≡ l.fn.lane.g;
  room : vec_capacity l.answers ≡ vec_capacity l.fn.answers;
}
