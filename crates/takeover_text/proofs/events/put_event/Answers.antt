use Rattle.std.proofs.Common.{List, get_or, sym, ap, ◌∙◌, subst}
use Rattle.takeover_history.specs.declared.event.Event.{Event}
use Rattle.takeover_history.specs.declared.event.Event.TheVariants.{Ask}
use Rattle.takeover_history.specs.Steps.{log_of}
use Rattle.takeover_core.specs.Standing.{PairStandsFor}
use Rattle.text_output.proofs.OutputLemmas.{OnOk-always}
use Rattle.takeover_text.specs.Progress.{first_events, latest_outcome}
use Rattle.takeover_text.proofs.Fronts.{event_at, events_more}
use Rattle.takeover_text.proofs.events.put_event.Goals as goal

pub step-requires : goal.step-requires
step-requires g c =
    let script = c.args.script.now in
    let event : Event = get_or c.events.result.now c.args.at (Ask 0 0 0) in
    (script.pair, first_events script c.args.at, c.requires.taken, c.requires.script.may c.args.at event (event_at script c.events.result.now c.args.at (Ask 0 0 0) c.events.ensures c.requires.at))

pub put_outcome-requires-clause-taken : goal.put_outcome-requires-clause-taken
put_outcome-requires-clause-taken g c =
    let script = c.args.script.now in
    let event : Event = get_or c.events.result.now c.args.at (Ask 0 0 0) in
    let at_place = event_at script c.events.result.now c.args.at (Ask 0 0 0) c.events.ensures c.requires.at in
    subst (λ (es : List Event). PairStandsFor script.pair c.step.new.self es) (sym (events_more script c.args.at event at_place))
    (c.in_ok-outcome.ensures.stands script.pair (first_events script c.args.at) c.requires.taken (c.requires.script.may c.args.at event at_place))

pub put_outcome-requires-clause-outcome : goal.put_outcome-requires-clause-outcome
put_outcome-requires-clause-outcome g c =
    let script = c.args.script.now in
    let event : Event = get_or c.events.result.now c.args.at (Ask 0 0 0) in
    let at_place = event_at script c.events.result.now c.args.at (Ask 0 0 0) c.events.ensures c.requires.at in
    c.in_ok-outcome.ensures.answers script.pair (first_events script c.args.at) c.requires.taken (c.requires.script.may c.args.at event at_place)
    ∙ ap (λ (es : List Event). latest_outcome script.pair (log_of script.pair es)) (sym (events_more script c.args.at event at_place))

pub returns-clause-taken : goal.returns-clause-taken
returns-clause-taken g c =
    let script = c.args.script.now in
    let event : Event = get_or c.events.result.now c.args.at (Ask 0 0 0) in
    let at_place = event_at script c.events.result.now c.args.at (Ask 0 0 0) c.events.ensures c.requires.at in
    OnOk-always c.put_outcome.result (subst (λ (es : List Event). PairStandsFor script.pair c.step.new.self es) (sym (events_more script c.args.at event at_place))
    (c.in_ok-outcome.ensures.stands script.pair (first_events script c.args.at) c.requires.taken (c.requires.script.may c.args.at event at_place)))
