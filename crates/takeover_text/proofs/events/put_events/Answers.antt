use Rattle.std.proofs.Common.{◌<◌, ◌+◌, ℕ, List, ◌++◌, length, get_or, refl, ap, ◌∙◌, arith}
use Rattle.takeover_history.specs.declared.event.Event.{Event}
use Rattle.takeover_history.specs.declared.event.Event.TheVariants.{Ask}
use Rattle.text_output.proofs.OutputLemmas.{Passes-after, Passes-broken}
use Rattle.takeover_text.proofs.Fronts.{event_at, lines_more, lines_whole}
use Rattle.takeover_text.proofs.events.put_events.Goals as goal

pub loop-at-preserved : goal.loop-at-preserved
loop-at-preserved g c =
    let script = c.args.script.now in
    let at : ℕ = c.loop-at.at in
    let below : at < length script.events = omega (arith, ap (λ (es : List Event). length es) c.events.ensures) in
    let event : Event = get_or script.events at (Ask 0 0 0) in
    record {
      taken = c.in_ok-put_event.ensures.taken;
      passed = Passes-after c.loop-at.invariant.passed c.in_ok-put_event.ensures.passes (lines_more script at event (event_at script script.events at (Ask 0 0 0) refl below));
    }

pub returns-in_err-put_event-clause-passes : goal.returns-in_err-put_event-clause-passes
returns-in_err-put_event-clause-passes g c =
    let script = c.args.script.now in
    let at : ℕ = c.loop-at.at in
    let below : at < length script.events = omega (arith, ap (λ (es : List Event). length es) c.events.ensures) in
    let event : Event = get_or script.events at (Ask 0 0 0) in
    let (rest, whole) = lines_whole script (at + 1) in
    Passes-broken rest c.loop-at.invariant.passed c.in_err-put_event.ensures.passes c.from_residual.ensures.1
    (whole ∙ ap (λ (t : List ℕ). t ++ rest) (lines_more script at event (event_at script script.events at (Ask 0 0 0) refl below)))
