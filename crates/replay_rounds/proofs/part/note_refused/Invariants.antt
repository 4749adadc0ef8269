use Rattle.std.proofs.Common.{◌≡◌, ◌++◌, take}
use Rattle.replay_rounds.proofs.part.note_refused.Given as goal

abbrev pub invariant-loop-at : goal.invariant-loop-at
invariant-loop-at l = l.list.items ≡ l.initial.list.items ++ take l.at l.refused
