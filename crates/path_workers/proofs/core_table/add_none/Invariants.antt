use Rattle.std.proofs.Common.{◌≡◌, ◌++◌, replicate, None, vec_capacity}
use Rattle.path_workers.proofs.core_table.add_none.Given as goal

abbrev pub invariant-loop-at : goal.invariant-loop-at
invariant-loop-at l = record {
  items : l.cores.items ≡ l.fn.cores.items ++ replicate l._at None;
  room : vec_capacity l.cores ≡ vec_capacity l.fn.cores;
}
