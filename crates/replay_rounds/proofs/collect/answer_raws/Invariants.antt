use Rattle.std.proofs.Common.{◌≡◌, map, take}
use Rattle.replay_rounds.specs.Collecting.{answers_of}
use Rattle.replay_rounds.proofs.collect.answer_raws.Given as goal

abbrev pub invariant-loop-at : goal.invariant-loop-at
invariant-loop-at l = map (λ v. v.items) l.answers.items ≡ answers_of (take l.at l.raws) l.rounds
