use Rattle.std.proofs.Common.{◌≡◌, ℕ}
use mathlib.Core.List.{IsPrefix}
use Rattle.std.specs.Prelude.{vec_capacity, vec_len}
use Rattle.rtrb.specs.Ring.{received, consumer_capacity, SameConsumer}
use Rattle.front_desk.specs.Standing.{HasRead}
use Rattle.front_desk.proofs.line.take_seen.Given as goal

abbrev pub invariant-loop : goal.invariant-loop
invariant-loop l = record {
  ring : SameConsumer l.fn.ring l.ring;
  taken : IsPrefix (received l.fn.ring) (received l.ring);
  end : l.end ≡ consumer_capacity l.fn.ring;
  count : vec_len l.answers ≡ l.counter;
  read : (endpoint endpoints : ℕ) → HasRead endpoint endpoints l.fn.lane (received l.fn.ring) l.fn.answers.items → HasRead endpoint endpoints l.lane (received l.ring) l.answers.items;
  b : l.lane.b ≡ l.fn.lane.b;
  g : l.lane.g ≡ l.fn.lane.g;
  room : vec_capacity l.answers ≡ vec_capacity l.fn.answers;
}
