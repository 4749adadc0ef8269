use Rattle.std.proofs.Common.{◌≡◌, ◌<◌, nat_lt, ℕ, [], ◌∷◌, length, sym, ap, ◌∙◌, arith}
use Rattle.std.proofs.lemmas.Bool.{cond-true, cond-false, lt-ltb, le-ltb}
use Rattle.report_text.specs.declared.line.Line.{Line}
use Rattle.report_text.specs.declared.line.Line.TheVariants as line
use Rattle.takeover_history.specs.Events.{Log}
use Rattle.takeover_history.specs.Endpoints.{asked_of_flow, sends_of_flow}
use Rattle.text_output.specs.Text.{line_text, text_of}
use Rattle.text_output.proofs.OutputLemmas.{Passes-nothing, Passes-same}
use Rattle.takeover_text.specs.Progress.{log_after, first_events}
use Rattle.takeover_text.proofs.Showing.{one_line}
use Rattle.takeover_text.proofs.totals.put_total.Goals as goal

pub returns-then-asked-eq0 : goal.returns-then-asked-eq0
returns-then-asked-eq0 g c =
    let script = c.args.script.now in
    let log : Log = log_after script (length script.events) in
    let flow = c.args.flow in
    let told = c.totals-asked.ensures script.pair (first_events script (length script.events)) c.requires.stands in
    let none : asked_of_flow log flow ≡ 0 = sym (ap (λ (x : ℕ × ℕ). x.0) told) ∙ c.if-asked-eq0.true in
    Passes-same (Passes-nothing c.args.output.now)
    (sym (ap text_of (cond-false (nat_lt 0 (asked_of_flow log flow)) (line.Total flow.src flow.dst (asked_of_flow log flow) (sends_of_flow script.pair log flow) ∷ []) [] (le-ltb 0 (asked_of_flow log flow) (omega arith)))))

pub returns : goal.returns
returns g c =
    let script = c.args.script.now in
    let log : Log = log_after script (length script.events) in
    let flow = c.args.flow in
    let told = c.totals-asked.ensures script.pair (first_events script (length script.events)) c.requires.stands in
    let asks : c.totals-asked.result.0 ≡ asked_of_flow log flow = ap (λ (x : ℕ × ℕ). x.0) told in
    let some : 0 < asked_of_flow log flow = omega (arith, c.if-asked-eq0.false) in
    let shown : Line = line.Total flow.src flow.dst (asked_of_flow log flow) (sends_of_flow script.pair log flow) in
    Passes-same c.put_line.ensures (ap (λ (x : ℕ × ℕ). line_text (line.Total flow.src flow.dst x.0 x.1)) told
    ∙ one_line shown _ (cond-true (nat_lt 0 (asked_of_flow log flow)) (shown ∷ []) [] (lt-ltb 0 (asked_of_flow log flow) some)))
