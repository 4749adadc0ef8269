use Rattle.std.proofs.Common.{rules}
use Rattle.run_text.proofs.HeldSteps.{may_give, holds_step, stopped_with}
use Rattle.run_text.proofs.replay.play_step.Goals as goal

pub returns-in_err-written-clause-stopped : goal.returns-in_err-written-clause-stopped
returns-in_err-written-clause-stopped g c = stopped_with c.from_residual.result c.in_err-written.was c.from_residual.ensures.1 c.step_beside-played.ensures.called.met.1 (search rules) (search rules)

pub returns-clause-allocated : goal.returns-clause-allocated
returns-clause-allocated g c =
    let (cores, stands) = c.requires.stands in
    (c.in_ok-played.ensures.replayed cores stands).allocated

pub returns-clause-held : goal.returns-clause-held
returns-clause-held g c =
    let (cores, stands) = c.requires.stands in
    let made = c.in_ok-played.ensures in
    may_give c.args.b c.args.trace.now cores c.args.replay.now c.step_beside-played.new.self c.in_ok-played.field-0 c.every_refusal_has_a_number.ensures c.requires.accepted stands c.requires.b made.stepped (made.replayed cores stands)

pub returns-clause-step : goal.returns-clause-step
returns-clause-step g c =
    let made = c.in_ok-played.ensures in
    holds_step c.args.b c.args.trace.now c.args.replay.now c.step_beside-played.new.self c.in_ok-played.field-0 c.requires.accepted c.requires.b made.stepped made.replayed
