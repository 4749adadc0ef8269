use Rattle.std.proofs.Common.{◌≡◌, ◌≤◌, ◌+◌, ℕ, List, ◌∷◌, length, get_or, take, sym, ap, ◌∙◌, arith}
use Rattle.std.proofs.lemmas.List.{length-reverse, length-take-le}
use Rattle.report_text.specs.declared.line.Line.TheVariants as line
use Rattle.takeover_history.specs.declared.event.Event.{Event}
use Rattle.takeover_history.specs.declared.event.Event.TheVariants.{Ask, Publish}
use Rattle.takeover_history.specs.Events.{Log}
use Rattle.takeover_history.specs.Events as fact
use Rattle.takeover_history.specs.Fits.{EveryLogHasFew}
use Rattle.takeover_history.specs.Laws.{EachBatchIsItsNodes}
use Rattle.takeover_history.specs.Steps.{done, log_of}
use Rattle.text_output.specs.Text.{line_text, text_of}
use Rattle.text_output.proofs.OutputLemmas.{Passes-nothing, Passes-same}
use Rattle.script_text.specs.Content.{ScriptContent}
use Rattle.takeover_text.specs.Lines.{refusal_place}
use Rattle.takeover_text.specs.Progress.{first_events, log_after}
use Rattle.takeover_text.proofs.Batches.{batch_is, slots_are, slots_fit, batch_text}
use Rattle.takeover_text.proofs.Fronts.{event_at, events_more}
use Rattle.takeover_text.proofs.Showing.{one_line, nothing_shown, grant_shown, refusal_shown, sends_shown, batch_shown, publishes, IsIssued}
use Rattle.takeover_text.proofs.events.put_outcome.Goals as goal

-- how long the log is
log_length : (script : ScriptContent) (count : ℕ) → EveryLogHasFew → count ≤ length script.events → length (log_after script count) ≡ count
log_length script count few below = (few script.pair (first_events script count)).0 ∙ (length-reverse (take count script.events) ∙ length-take-le count script.events below)

-- who published
its_publisher : (script : ScriptContent) (at number node : ℕ) (event : Event) → EachBatchIsItsNodes → first_events script (at + 1) ≡ event ∷ first_events script at → (it : IsIssued (log_after script (at + 1)) number)
    → ((n : ℕ) → event ≡ Publish n → node ≡ n) → node ≡ it.issue.lease.holder.node
its_publisher script at number node event own more it by =
    let log : Log = log_after script at in
    let both : done script.pair log event ∷ log ≡ fact.Published it.issue ∷ it.earlier = sym (ap (λ (es : List Event). log_of script.pair es) more) ∙ it.is in
    let same : done script.pair log event ≡ fact.Published it.issue = cc in
    let (n, is) = publishes script.pair log it.issue event same in
    by n is ∙ sym (own script.pair log n it.issue (ap (λ (e : Event). done script.pair log e) (sym is) ∙ same))

pub put_published-requires : goal.put_published-requires
put_published-requires g c =
    let script = c.args.script.now in
    let log : Log = log_after script (c.args.at + 1) in
    let few = c.running_counts_serve.ensures.few script.pair (first_events script (c.args.at + 1)) in
    let long : length log ≤ 10000 = omega (arith, log_length script (c.args.at + 1) c.running_counts_serve.ensures.few (omega (arith, c.requires.at)), c.requires.at, c.requires.script.few) in
    let it = batch_shown script.pair log c.in-Published.batch (sym c.requires.outcome ∙ c.in-Published.is) in
    let told = c.slots.ensures script.pair (first_events script (c.args.at + 1)) c.requires.taken in
    slots_fit script.pair log c.in-Published.batch c.slots.result.now.slots it few.1 c.requires.script.pair long (slots_are script.pair log c.in-Published.batch c.slots.result.now it told)

pub returns-in-Nothing : goal.returns-in-Nothing
returns-in-Nothing g c =
    let script = c.args.script.now in
    let log : Log = log_after script (c.args.at + 1) in
    Passes-same (Passes-nothing c.args.output.now) (sym (ap text_of (nothing_shown script.pair log (sym c.requires.outcome ∙ c.in-Nothing.is))))

pub returns-in-Granted : goal.returns-in-Granted
returns-in-Granted g c =
    let script = c.args.script.now in
    let log : Log = log_after script (c.args.at + 1) in
    let is = c.in-Granted in
    Passes-same c.put_line.ensures (one_line (line.Granted is.message is.node is.generation is.first) _ (grant_shown script.pair log is.message is.node is.generation is.first (sym c.requires.outcome ∙ is.is)))

pub returns-in-Published : goal.returns-in-Published
returns-in-Published g c =
    let script = c.args.script.now in
    let at : ℕ = c.args.at in
    let log : Log = log_after script (at + 1) in
    let number : ℕ = c.in-Published.batch in
    let few = c.running_counts_serve.ensures.few script.pair (first_events script (at + 1)) in
    let it = batch_shown script.pair log number (sym c.requires.outcome ∙ c.in-Published.is) in
    let event : Event = get_or c.events.result.now at (Ask 0 0 0) in
    let more = events_more script at event (event_at script c.events.result.now at (Ask 0 0 0) c.events.ensures c.requires.at) in
    let by = its_publisher script at number c.publisher-node.result event c.each_batch_is_its_nodes.ensures more it c.publisher-node.ensures in
    let batch = batch_is script.pair log number c.batch.result.now it (c.batch.ensures script.pair (first_events script (at + 1)) c.requires.taken) in
    let slots = slots_are script.pair log number c.slots.result.now it (c.slots.ensures script.pair (first_events script (at + 1)) c.requires.taken) in
    Passes-same c.put_published.ensures (batch_text script.pair log number c.publisher-node.result c.batch.result.now c.slots.result.now.slots it few.1 by batch slots)

pub returns-in-Sent : goal.returns-in-Sent
returns-in-Sent g c =
    let script = c.args.script.now in
    let log : Log = log_after script (c.args.at + 1) in
    let shown = sends_shown script.pair log c.in-Sent.from c.in-Sent.count (sym c.requires.outcome ∙ c.in-Sent.is) in
    Passes-same (c.put_sends.ensures script.pair (first_events script (c.args.at + 1)) c.requires.taken) (sym (ap text_of shown.lines))

pub returns-in-Refused : goal.returns-in-Refused
returns-in-Refused g c =
    let script = c.args.script.now in
    let log : Log = log_after script (c.args.at + 1) in
    let name = c.in-Refused.name in
    let row : length log + 1 ≡ c.args.at + 2 = omega (arith, log_length script (c.args.at + 1) c.running_counts_serve.ensures.few (omega (arith, c.requires.at))) in
    let place = c.place_of.ensures.place in
    Passes-same c.put_line-in-Refused.ensures
    (ap (λ (p : ℕ). line_text (line.Declined (c.args.at + 2) p)) place
    ∙ (ap (λ (n : ℕ). line_text (line.Declined n (refusal_place name))) (sym row)
    ∙ one_line (line.Declined (length log + 1) (refusal_place name)) _ (refusal_shown script.pair log name (sym c.requires.outcome ∙ c.in-Refused.is))))
