use Rattle.std.proofs.Common.{◌≡◌, ◌≢◌, ◌*◌, ℕ, refl, sym, ap, ◌∙◌, arith, rules}
use Rattle.clos_topology.specs.NetSlots.{SlotCores}
use Rattle.window_engine.specs.Standing.{engine_window}
use Rattle.window_engine.proofs.EngineFacts.{plan_within, plan_whole}
use Rattle.run_lines.specs.Text.{text_of}
use Rattle.text_output.proofs.OutputLemmas.{Passes-same}
use Rattle.run_text.specs.Progress.{rounds_lines}
use Rattle.run_text.proofs.CoreLemmas.{spliced, scheduled_spliced}
use Rattle.run_text.proofs.StepLemmas.{rounds_step, rounds_stop}
use Rattle.run_text.proofs.plan.put_rounds.Goals as goal

pub loop-engine-preserved : goal.loop-engine-preserved
loop-engine-preserved g c =
    let trace = c.args.trace.now in
    let b : ℕ = c.args.b in
    let old = c.loop-engine.engine in
    let n : ℕ = engine_window old in
    let (there, scheduled, passed) = c.loop-engine.invariant.passed in
    let (here, clean, passes) = c.in_ok-put_step.ensures.passes in
    let cores : SlotCores = spliced (old.collected * b) (n * b) here there in
    record {
      stands = c.in_ok-put_step.ensures.stands;
      size = c.in_ok-put_step.ensures.b;
      passed = (
        cores,
        scheduled_spliced b old.collected n trace here there scheduled clean,
        c.texts_follow.ensures.after passed passes (rounds_step b trace old c.put_step.new.engine.collected here there c.requires.accepted c.loop-engine.invariant.stands c.every_plan_has_its_slots.ensures c.in_ok-put_step.ensures.round),
      );
    }

pub returns-in_err-put_step-clause-passes : goal.returns-in_err-put_step-clause-passes
returns-in_err-put_step-clause-passes g c =
    let trace = c.args.trace.now in
    let b : ℕ = c.args.b in
    let old = c.loop-engine.engine in
    let n : ℕ = engine_window old in
    let (there, scheduled, passed) = c.loop-engine.invariant.passed in
    let (here, clean, passes) = c.in_err-put_step.ensures.passes in
    let cores : SlotCores = spliced (old.collected * b) (n * b) here there in (
      cores,
      scheduled_spliced b old.collected n trace here there scheduled clean,
      c.texts_follow.ensures.stopped _ (c.texts_follow.ensures.after passed passes refl) c.from_residual.ensures.1 (rounds_stop b trace old here there c.requires.accepted c.loop-engine.invariant.stands c.every_plan_has_its_slots.ensures),
    )

pub loop-engine-smaller : goal.loop-engine-smaller
loop-engine-smaller g c =
    let old = c.loop-engine.engine in
    let stands = c.loop-engine.invariant.stands in
    let more : old.allocated ≢ old.rounds = search rules in
    let all : old.allocated ≡ old.collected = plan_whole stands in
    let at = plan_within stands in
    omega (arith, c.in_ok-put_step.ensures.round, at.within, at.rounds, at.g.0, all, more)

pub returns-clause-passes : goal.returns-clause-passes
returns-clause-passes g c =
    let trace = c.args.trace.now in
    let last = c.loop-engine.engine in
    let stands = c.loop-engine.invariant.stands in
    let done : last.allocated ≡ last.rounds = search rules in
    let ended : last.collected ≡ trace.rounds = sym (plan_whole stands) ∙ (done ∙ (plan_within stands).rounds) in
    let (cores, scheduled, passed) = c.loop-engine.invariant.passed in
    (cores, scheduled, Passes-same passed (ap (λ (k : ℕ). text_of (rounds_lines cores c.args.b k trace)) ended))
