use Rattle.window_engine.proofs.StepCounts.{replayed_after}
use Rattle.window_engine.proofs.replay_laws.every_replay_takes_its_steps.Goals as goal

pub returns : goal.returns
returns c = replayed_after
