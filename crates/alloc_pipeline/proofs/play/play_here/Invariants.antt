use Rattle.std.proofs.Common.{◌≡◌, vec_len, vec_capacity}
use Rattle.alloc_pipeline.specs.Rings.{AllLinked, AllGoOn}
use Rattle.alloc_pipeline.proofs.play.play_here.Given as goal

abbrev pub invariant-loop : goal.invariant-loop
invariant-loop g l = record {
  linked : AllLinked l.queues l.batches l.players.items;
  goes_on : AllGoOn l.queues l.batches l.initial.players.items l.players.items;
  len : vec_len l.players ≡ vec_len l.initial.players;
  room : vec_capacity l.players ≡ vec_capacity l.initial.players;
}
