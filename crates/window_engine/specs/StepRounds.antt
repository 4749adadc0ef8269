-- What the rounds of a step give, in a plan and in a replay (this project's own profile).
use Rattle.std.specs.Prelude.{[]}
use Rattle.std.specs.Rc.{rc_value}
use Rattle.replay_rounds.specs.Played.{Played}
use Rattle.window_engine.specs.declared.step.StepRounds.{StepRounds}
use Rattle.window_engine.specs.declared.step.StepRounds.TheVariants.{Plan, Replay}

-- in a plan nothing is answered or sent
abbrev pub played_in : StepRounds → Played
played_in (Plan batches) = record { batches = batches.items; answers = []; departures = [] }
played_in (Replay played) = rc_value played
