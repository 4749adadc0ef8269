use Rattle.std.proofs.Common.{◌≡◌, ◌+◌, ◌*◌, take, length}
use Rattle.std.specs.List.{flat_map}
use Rattle.fcp_framing.specs.Spelling.{demand_bytes}
use Rattle.fcp_framing.specs.Writing.{with_bytes}
use Rattle.fcp_framing.proofs.encoding.put_demands.Given as goal

abbrev pub invariant-loop-demand : goal.invariant-loop-demand
invariant-loop-demand l = record {
  place : l.end ≡ l.start + 6 * l.demand-index;
  whole : length l.buf ≡ 2048;
  list : l.buf ≡ with_bytes l.start (flat_map demand_bytes (take l.demand-index l.demands)) l.initial.buf;
}
