use Rattle.std.proofs.Common.{◌≡◌, vec_capacity}
use Rattle.alloc_pipeline.specs.Rings.{AllLinked, AllGoOn}
use Rattle.alloc_pipeline.proofs.play.run.Given as goal

abbrev pub invariant-loop : goal.invariant-loop
invariant-loop g l = record {
  linked : AllLinked l.queues l.batches l.players.items;
  goes_on : AllGoOn l.queues l.batches l.fn.players.items l.players.items;
  room : vec_capacity l.players ≡ vec_capacity l.fn.players;
}
