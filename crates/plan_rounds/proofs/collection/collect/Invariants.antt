use Rattle.std.proofs.Common.{◌≡◌, ◌-◌, take, drop}
use Rattle.clos_topology.specs.Network.{endpoints_of}
use Rattle.plan_rounds.specs.Batches.{plan_batches}
use Rattle.plan_rounds.specs.Tallies.{Tallies}
use Rattle.plan_rounds.proofs.collection.collect.Given as goal

abbrev pub invariant-loop-round : goal.invariant-loop-round
invariant-loop-round l = record {
  batches : l.batches.items ≡ take (l.round - l.first) (drop l.first (plan_batches l.trace));
  tallies : Tallies (endpoints_of l.trace.net) (take l.round l.trace.asked) l.asked;
}
