use Rattle.window_engine.proofs.EngineLemmas.{replay_engine}
use Rattle.window_engine.proofs.engine.Engine.open.Goals as goal

pub returns-then-setting-clause-replay : goal.returns-then-setting-clause-replay
returns-then-setting-clause-replay c asked cores named = replay_engine c.args.trace.now cores c.in_ok-replay.replay (c.in_ok-replay.ensures.stands cores named)
