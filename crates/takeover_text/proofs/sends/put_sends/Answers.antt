use Rattle.std.proofs.Common.{◌≡◌, ◌<◌, ◌≤◌, ◌+◌, ◌-◌, ℕ, List, ◌++◌, length, get_or, map, take, drop, Some, slice_get, sym, ap, ◌∙◌, arith}
use Rattle.std.proofs.lemmas.List.{length-drop, take-take, get_or-drop}
use Rattle.std.proofs.lemmas.Option.{slice_get-get_or, slice_get_within, get_or_from_slice_get}
use Rattle.report_text.specs.declared.line.Line.TheVariants as line
use Rattle.takeover_history.specs.Endpoints.{Send, sent}
use Rattle.takeover_history.specs.Steps.{log_of}
use Rattle.takeover_core.specs.Sending.{send_of}
use Rattle.text_output.specs.Text.{line_text, text_of}
use Rattle.text_output.proofs.OutputLemmas.{Passes-after, Passes-broken, Passes-same}
use Rattle.text_output.proofs.TextLemmas.{text_more, text_rest}
use Rattle.takeover_text.specs.Lines.{send_line}
use Rattle.takeover_text.proofs.sends.put_sends.Goals as goal

-- one send more, of those from a number on
send_more : (all : List Send) (from at : ℕ) (send : Send) → from ≤ at → slice_get all at ≡ Some send
    → text_of (map send_line (take (at + 1 - from) (drop from all))) ≡ text_of (map send_line (take (at - from) (drop from all))) ++ line_text (send_line send)
send_more all from at send after is =
    let place : ℕ = at - from in
    let within : at < length all = slice_get_within all at send is in
    let below : place < length (drop from all) = omega (arith, length-drop from all) in
    let here : from + place ≡ at = omega arith in
    let next : at + 1 - from ≡ place + 1 = omega arith in
    let it : slice_get (drop from all) place ≡ Some send =
    slice_get-get_or (drop from all) place send below ∙ ap Some (get_or-drop from all place send ∙ (ap (λ (n : ℕ). get_or all n send) here ∙ get_or_from_slice_get all at send send is)) in
    ap (λ (n : ℕ). text_of (map send_line (take n (drop from all)))) next ∙ text_more send_line (drop from all) place send below it

-- and so many of them, of which this is one
sends_whole : (all : List Send) (from count at : ℕ) (send : Send) → from ≤ at → at < from + count → slice_get all at ≡ Some send
    → text_of (map send_line (take count (drop from all)))
    ≡ (text_of (map send_line (take (at - from) (drop from all))) ++ line_text (send_line send)) ++ text_of (map send_line (drop (at + 1 - from) (take count (drop from all))))
sends_whole all from count at send after more is =
    let rest : List ℕ = text_of (map send_line (drop (at + 1 - from) (take count (drop from all)))) in
    text_rest send_line (take count (drop from all)) (at + 1 - from)
    ∙ ap (λ (t : List ℕ). t ++ rest) (ap (λ (xs : List Send). text_of (map send_line xs)) (take-take (at + 1 - from) count (drop from all) (omega arith)) ∙ send_more all from at send after is)

pub loop-at-preserved : goal.loop-at-preserved
loop-at-preserved g c = λ setting events stands.
    let all : List Send = sent setting (log_of setting events) in
    let from : ℕ = c.args.from in
    let at : ℕ = c.loop-at.at in
    let found = c.sent-src.result in
    let before : List ℕ = text_of (map send_line (take (at - from) (drop from all))) in
    let told : slice_get all at ≡ Some (send_of found) = c.sent-src.ensures setting events stands in
    Passes-after (c.loop-at.invariant setting events stands) c.in_ok-put_sent.ensures
    (send_more all from at (send_of found) (omega arith) told ∙ ap (λ (n : ℕ). before ++ line_text (line.Sent n found.0 found.1.dst)) (sym c.set.ensures))

pub returns-in_err-put_sent : goal.returns-in_err-put_sent
returns-in_err-put_sent g c = λ setting events stands.
    let all : List Send = sent setting (log_of setting events) in
    let from : ℕ = c.args.from in
    let count : ℕ = c.args.count in
    let at : ℕ = c.loop-at.at in
    let found = c.sent-src.result in
    let before : List ℕ = text_of (map send_line (take (at - from) (drop from all))) in
    let rest : List ℕ = text_of (map send_line (drop (at + 1 - from) (take count (drop from all)))) in
    let told : slice_get all at ≡ Some (send_of found) = c.sent-src.ensures setting events stands in
    Passes-broken _ (c.loop-at.invariant setting events stands) c.in_err-put_sent.ensures c.from_residual.ensures.1
    (sends_whole all from count at (send_of found) (omega arith) (omega arith) told ∙ ap (λ (n : ℕ). (before ++ line_text (line.Sent n found.0 found.1.dst)) ++ rest) (sym c.set.ensures))

pub returns : goal.returns
returns g c = λ setting events stands.
    let all : List Send = sent setting (log_of setting events) in
    let ended : c.loop-at.at - c.args.from ≡ c.args.count = omega arith in
    Passes-same (c.loop-at.invariant setting events stands) (ap (λ (n : ℕ). text_of (map send_line (take n (drop c.args.from all)))) ended)
