use Rattle.std.proofs.Common.{◌≡◌, ◌++◌, map, take}
use Rattle.fcp_framing.specs.Fields.{demand_in}
use Rattle.fcp_framing.proofs.demands.append.Given as goal

abbrev pub invariant-loop-entry : goal.invariant-loop-entry
invariant-loop-entry l = l.demands.items ≡ l.initial.demands.items ++ map demand_in (take l.entry-index l.entries)
