use Rattle.std.proofs.Common.{◌≡◌, ap, ◌∙◌}
use Rattle.trace_run.specs.Run.{Setting}
use Rattle.replay_rounds.specs.Setting.{byte_of, setting_of}
use Rattle.run_text.specs.Made.{sums_of, counts_of_run}
use Rattle.run_text.proofs.ReplayLoop.{same_run}
use Rattle.run_text.proofs.SumLemmas.{same_counts_of_run}
use Rattle.window_engine.specs.Standing.{EngineState, run_of}
use Rattle.run_text.proofs.make.replay_sums.Goals as goal

pub returns : goal.returns
returns g c = λ cores.
    let trace = c.args.trace.now in
    let (there, stands) = c.in_ok-play.ensures.stands in
    let opened = c.deref_mut-engine.ensures.value in
    let same : run_of trace there c.play.new.replay ≡ setting_of trace c.args.sizes.b c.args.sizes.g there =
    same_run trace there c.play.new.replay c.args.sizes.b c.args.sizes.g (c.in_ok-play.ensures.b ∙ (ap (λ (e : EngineState). e.b) opened ∙ c.in_ok-replay.ensures.b)) (c.in_ok-play.ensures.g ∙ (ap (λ (e : EngineState). e.g) opened ∙ c.in_ok-replay.ensures.g)) in
    c.sum_counts.ensures there stands
    ∙ (ap (λ (s : Setting). sums_of (counts_of_run s trace.rounds)) same
    ∙ ap sums_of (same_counts_of_run (setting_of trace c.args.sizes.b c.args.sizes.g cores) (λ number source. byte_of (there number source)) trace.rounds c.cores_decide_nothing.ensures c.cores_are_only_told.ensures.counts))
