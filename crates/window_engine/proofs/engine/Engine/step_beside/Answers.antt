use Rattle.std.proofs.Common.{sym, ap, ◌∙◌}
use Rattle.window_engine.specs.Standing.{engine_of, HasPlannedWindow, HasReplayedWindow}
use Rattle.window_engine.proofs.EngineLemmas.{no_plan, no_replay, plan_planned, replay_stands, replay_replayed, carried}
use Rattle.window_engine.proofs.engine.Engine.step_beside.Goals as goal
use Rattle.window_engine.proofs.engine.Engine.step_beside.Goals.{in-Plan, in-Replay}

pub returns-clause-planned : goal.returns-clause-planned
returns-clause-planned g c stands =
    let trace = c.args.trace.now in
    elim c.match-self.branch [
      | in-Plan w ↦
          let seen = ap engine_of (sym w.in-Plan.is) ∙ c.self.view_is in
          let made = w.step.ensures in
          carried (HasPlannedWindow trace) _ _ _ _ _ _ w.result-is seen (ap (λ e. engine_of e.run) w.self-inside-is) (plan_planned trace _ _ w.step.result made.stands made.rounds made.planned)
      | in-Replay w ↦ no_plan trace c.args.self.now _ (ap engine_of (sym w.in-Replay.is) ∙ c.self.view_is) stands
    ]

pub returns-clause-replayed : goal.returns-clause-replayed
returns-clause-replayed g c cores stands =
    let trace = c.args.trace.now in
    elim c.match-self.branch [
      | in-Plan w ↦ no_replay trace cores c.args.self.now _ (ap engine_of (sym w.in-Plan.is) ∙ c.self.view_is) stands
      | in-Replay w ↦
          let seen = ap engine_of (sym w.in-Replay.is) ∙ c.self.view_is in
          let made = w.step_beside.ensures in
          carried (HasReplayedWindow trace cores) _ _ _ _ _ _ w.result-is seen (ap (λ e. engine_of e.run) w.self-inside-is)
          (replay_replayed trace cores _ _ w.step_beside.result (replay_stands trace cores c.args.self.now _ seen stands) made.stands made.published made.played made.span made.window made.shown)
    ]
