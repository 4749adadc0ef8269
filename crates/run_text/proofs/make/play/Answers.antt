use Rattle.std.proofs.Common.{◌≡◌, ◌≢◌, ◌+◌, ◌-◌, ℕ, min, refl, sym, ap, ◌∙◌, inr, rules}
use Rattle.run_text.proofs.PlayLemmas.{stands_itself, stands_at_first, stands_on}
use Rattle.run_text.proofs.ReplayLoop.{step_smaller}
use Rattle.window_engine.proofs.EngineFacts.{replay_within}
use Rattle.run_text.proofs.make.play.Goals as goal

pub loop-replay-init : goal.loop-replay-init
loop-replay-init g c = record { b = refl; g = refl; stands = stands_at_first c.args.trace.now c.args.replay.now c.requires.stands }

pub step-requires-clause-stands : goal.step-requires-clause-stands
step-requires-clause-stands g c κs within = inr (stands_itself c.args.trace.now c.loop-replay.replay c.loop-replay.invariant.stands)

pub loop-replay-preserved : goal.loop-replay-preserved
loop-replay-preserved g c =
    let inv = c.loop-replay.invariant in
    let step = c.in_ok-_step.ensures in
    record {
      b = step.stepped.b ∙ inv.b;
      g = step.stepped.g ∙ inv.g;
      stands = stands_on c.args.trace.now c.loop-replay.replay c.step.new.self c.in_ok-_step._step c.requires.accepted inv.stands step.stepped.b step.replayed;
    }

pub loop-replay-smaller : goal.loop-replay-smaller
loop-replay-smaller g c =
    let old = c.loop-replay.replay in
    let new = c.step.new.self in
    let all : ℕ = c.args.trace.now.rounds in
    let step = c.in_ok-_step.ensures in
    let (cores, stands) = stands_itself c.args.trace.now old c.loop-replay.invariant.stands in
    let more : old.allocated ≢ old.rounds = search rules in
    let collected : new.collected ≡ old.collected + min old.g (all - old.collected) =
    step.stepped.collected ∙ ap (λ (n : ℕ). old.collected + min old.g (n - old.collected)) (replay_within stands).rounds in
    step_smaller old.g all old.collected old.allocated new.collected new.allocated (replay_within stands).g.0 (replay_within stands).behind (replay_within stands).within (λ is. more (is ∙ sym (replay_within stands).rounds))
    collected (step.replayed cores stands).allocated

pub returns-clause-stands : goal.returns-clause-stands
returns-clause-stands g c = stands_itself c.args.trace.now c.loop-replay.replay c.loop-replay.invariant.stands
