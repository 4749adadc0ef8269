use Rattle.std.proofs.Common.{◌≡◌, map, take}
use Rattle.clos_topology.specs.Network.{endpoints_of}
use Rattle.clos_topology.specs.NetSlots.{limits_of}
use Rattle.plan_rounds.specs.Tallies.{Adds}
use Rattle.plan_rounds.proofs.RoundAsks.{entry_by}
use Rattle.plan_rounds.proofs.collection.collect_round.Given as goal

abbrev pub invariant-loop-ask : goal.invariant-loop-ask
invariant-loop-ask l = record {
  entries : l.batch.entries ≡ take l.ask-index (map (entry_by (take l.round l.trace.asked)) l.ask-items);
  limits : l.batch.limits ≡ limits_of l.trace.net;
  adds : Adds (endpoints_of l.trace.net) (take l.ask-index (map (entry_by (take l.round l.trace.asked)) l.ask-items)) l.initial.asked l.asked;
}
