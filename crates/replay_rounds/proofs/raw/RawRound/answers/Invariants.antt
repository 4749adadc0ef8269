use Rattle.std.proofs.Common.{◌≡◌, take}
use Rattle.replay_rounds.specs.Collecting.{with_numbers}
use Rattle.replay_rounds.proofs.raw.RawRound.answers.Given as goal

abbrev pub invariant-loop-one : goal.invariant-loop-one
invariant-loop-one l = l.answers.items ≡ with_numbers (take l.one-index l.refused) l.initial.answers.items
