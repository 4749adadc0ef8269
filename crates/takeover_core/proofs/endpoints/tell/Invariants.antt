use Rattle.std.proofs.Common.{◌≡◌, ◌<◌, ◌-◌, ◌==◌, ◌&&◌, ℕ, nat_lt, if◌then◌else◌}
use Rattle.takeover_core.specs.Cells.{cell}
use Rattle.takeover_core.proofs.endpoints.tell.Given as goal

abbrev pub invariant-loop-dst : goal.invariant-loop-dst
invariant-loop-dst l = record {
  cells : (s d : ℕ) → d < l.asked.endpoints → cell l.told s d ≡ (if (l.src == s) && nat_lt d l.dst then cell l.asked s d - cell l.base s d else cell l.initial.told s d);
  endpoints : l.told.endpoints ≡ l.initial.told.endpoints;
}
