use Rattle.std.proofs.Common.{◌≡◌, ◌<◌, ◌==◌, ◌&&◌, ℕ, nat_lt, if◌then◌else◌}
use Rattle.takeover_core.specs.Cells.{cell}
use Rattle.takeover_core.proofs.endpoints.begin_anew.Given as goal

abbrev pub invariant-loop-dst : goal.invariant-loop-dst
invariant-loop-dst l = record {
  cells : (s d : ℕ) → d < l.counts.endpoints → cell l.base s d ≡ (if (l.src == s) && nat_lt d l.dst then cell l.counts s d else cell l.initial.base s d);
  endpoints : l.base.endpoints ≡ l.initial.base.endpoints;
}
