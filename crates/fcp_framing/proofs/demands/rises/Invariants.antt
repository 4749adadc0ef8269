use Rattle.std.proofs.Common.{◌≡◌, map, drop}
use Rattle.fcp_framing.specs.declared.packet.Demand.{Demand as DemandItem}
use Rattle.fcp_framing.specs.Fields.{demand_in}
use Rattle.fcp_framing.specs.Refusals.{is_rising}
use Rattle.fcp_framing.proofs.Rising.{rises_from}
use Rattle.fcp_framing.proofs.demands.rises.Given as goal

abbrev pub invariant-loop-entry : goal.invariant-loop-entry
invariant-loop-entry l = rises_from l.least (map (λ (demand : DemandItem). demand.dst) (map demand_in (drop l.entry-index l.entries))) ≡ is_rising (map (λ (demand : DemandItem). demand.dst) (map demand_in l.entries))
