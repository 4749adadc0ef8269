-- Refusals.
use Rattle.replay_rounds.proofs.Refusals.{every_refusal_has_a_number}
use Rattle.replay_rounds.proofs.laws.every_refusal_has_a_number.Goals as goal

pub returns : goal.returns
returns c = every_refusal_has_a_number
