use Rattle.std.proofs.Common.{◌≡◌, ◌++◌, take}
use Rattle.replay_rounds.proofs.part.append_entries.Given as goal

abbrev pub invariant-loop-at : goal.invariant-loop-at
invariant-loop-at l = record {
  entries : l.batch.entries ≡ l.initial.batch.entries ++ take l.at l.behind.entries;
  limits : l.batch.limits ≡ l.initial.batch.limits;
}
