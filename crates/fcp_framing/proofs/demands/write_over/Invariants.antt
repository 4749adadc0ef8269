use Rattle.std.proofs.Common.{◌≡◌, length, map, take}
use Rattle.fcp_framing.specs.Fields.{demand_in}
use Rattle.fcp_framing.proofs.demands.write_over.Given as goal

abbrev pub invariant-loop-at : goal.invariant-loop-at
invariant-loop-at l = (take l.at l.places ≡ map demand_in (take l.at l.entries)) × (length l.places ≡ length l.entries)
