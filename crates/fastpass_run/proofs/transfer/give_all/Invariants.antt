use Rattle.std.proofs.Common.{◌≡◌, ◌≤◌, ◌-◌, List, ℕ, length}
use Rattle.std.specs.Io.KnownBytes.{Consumes}
use Rattle.fastpass_run.specs.Given.{IsGiven}
use Rattle.fastpass_run.proofs.transfer.give_all.Given as goal

abbrev pub invariant-gives : goal.invariant-gives
invariant-gives g l = record {
  within : l.taken ≤ 67108864;
  gave : (bytes : List ℕ) × Consumes (g.S.Source.left l.initial.source) (g.S.Source.left l.source) bytes × (length bytes ≡ l.taken) × IsGiven l.initial.reader l.reader bytes;
  later : g.S.Source.faults l.initial.source ≤ g.S.Source.faults l.source;
}

abbrev pub decreases-gives : goal.decreases-gives
decreases-gives g l = 67108865 - l.taken
