use Rattle.std.proofs.Common.{◌≡◌, ◌<◌, ℕ, length, get_or}
use Rattle.greedy_rules.specs.Limits.{rack_of}
use Rattle.clos_topology.specs.Network.{endpoints_of}
use Rattle.schedule_audit.proofs.links.racks_of.Given as goal

abbrev pub invariant-loop-endpoint : goal.invariant-loop-endpoint
invariant-loop-endpoint l = record {
  count : length l.racks.items ≡ endpoints_of l.net;
  each : (e : ℕ) → e < l.endpoint → (get_or l.racks.items e 0 ≡ rack_of l.net.hosts e) × (get_or l.racks.items e 0 < l.net.racks);
}
