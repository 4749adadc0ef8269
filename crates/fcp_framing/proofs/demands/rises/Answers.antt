use Rattle.std.proofs.Common.{map}
use Rattle.fcp_framing.specs.declared.packet.Demand.{Demand as DemandItem}
use Rattle.fcp_framing.specs.Fields.{demand_in}
use Rattle.fcp_framing.proofs.Rising.{rises_from-none}
use Rattle.fcp_framing.proofs.demands.rises.Goals as goal

pub loop-entry-init : goal.loop-entry-init
loop-entry-init c = rises_from-none (map (λ (demand : DemandItem). demand.dst) (map demand_in c.args.entries.now))
