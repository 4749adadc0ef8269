use Rattle.std.proofs.Common.{◌≡◌, ◌≤◌, ◌-◌, ◌++◌}
use Rattle.std.specs.List.{filter_map, range_with_len}
use Rattle.greedy_rules.specs.Batches.{IsAboveLast}
use Rattle.arbiter_lane.specs.Parts.{entry_of_line}
use Rattle.arbiter_lane.proofs.flows.enter.Given as goal

abbrev pub invariant-loop-dst : goal.invariant-loop-dst
invariant-loop-dst l = record {
  entries : l.batch.entries ≡ l.fn.batch.entries ++ filter_map (entry_of_line l.fn.lines l.fn.endpoint l.fn.resets) (range_with_len 0 l.dst);
  limits : l.batch.limits ≡ l.fn.batch.limits;
  above : IsAboveLast l.batch.entries (record { src = l.fn.endpoint; dst = l.dst });
  most : l.dst ≤ 256;
}

abbrev pub decreases-loop-dst : goal.decreases-loop-dst
decreases-loop-dst l = 256 - l.dst
