use Rattle.std.proofs.Common.{arith}
use Rattle.trace_run.specs.Run.{replayed}
use Rattle.replay_rounds.specs.Setting.{setting_of}
use Rattle.window_engine.proofs.ReplayScheduled.{cores_go_on}
use Rattle.window_engine.proofs.replay_laws.every_replay_has_cores.Goals as goal

pub returns-clause-has : goal.returns-clause-has
returns-clause-has c b g trace cores sound few some =
    let setting = setting_of trace b g cores in
    let of_run = c.replays_hold.ensures.recorded setting trace.rounds trace.rounds (omega arith) (c.replays_hold.ensures.setting trace b g cores sound few some) in
    c.every_record_has_cores.ensures b trace.net (replayed setting trace.rounds).batches of_run.batches

pub returns-clause-goes_on : goal.returns-clause-goes_on
returns-clause-goes_on c = cores_go_on c.replays_hold.ensures c.every_record_has_cores.ensures c.cores_decide_nothing.ensures
