use Rattle.std.proofs.Common.{◌≡◌, ◌+◌, ◌++◌, ◌<◌, ℕ, List, drop, ap, ◌∙◌, arith}
use Rattle.std.specs.List.{flat_map, range_with_len}
use Rattle.std.proofs.lemmas.List.{take_all}
use Rattle.std.proofs.lemmas.List.FromFn.{length-range_with_len}
use Rattle.clos_topology.specs.Network.{endpoints_of}
use Rattle.text_output.specs.Text.{text_of}
use Rattle.text_output.proofs.OutputLemmas.{Passes-after, Passes-broken, Passes-same}
use Rattle.text_output.proofs.ItemTexts.{numbers_more}
use Rattle.receive_text.specs.ReceiveText.{answer_lines}
use Rattle.receive_text.proofs.Texts.{parts_rest}
use Rattle.receive_text.proofs.write.put_all_answers.Goals as goal

pub loop-endpoint-preserved : goal.loop-endpoint-preserved
loop-endpoint-preserved g c =
    let trace = c.args.trace.now in
    let n : ℕ = endpoints_of trace.net in
    let low : c.loop-endpoint.endpoint < n = omega (arith, c.loop-endpoint-test.true, c.loop-endpoint.auto.endpoint-end, c.endpoints-endpoint-end.ensures.number) in
    Passes-after c.loop-endpoint.invariant c.in_ok-put_answers.ensures (numbers_more (answer_lines trace) n c.loop-endpoint.endpoint low)

pub returns-in_err-put_answers : goal.returns-in_err-put_answers
returns-in_err-put_answers g c =
    let trace = c.args.trace.now in
    let n : ℕ = endpoints_of trace.net in
    let at : ℕ = c.loop-endpoint.endpoint in
    let low : at < n = omega (arith, c.loop-endpoint-test.true, c.loop-endpoint.auto.endpoint-end, c.endpoints-endpoint-end.ensures.number) in
    let later : List ℕ = text_of (flat_map (answer_lines trace) (drop (at + 1) (range_with_len 0 n))) in
    Passes-broken later c.loop-endpoint.invariant c.in_err-put_answers.ensures c.from_residual.ensures.1
    (parts_rest (answer_lines trace) n (at + 1) ∙ ap (λ (t : List ℕ). t ++ later) (numbers_more (answer_lines trace) n at low))

pub returns : goal.returns
returns g c =
    let trace = c.args.trace.now in
    let n : ℕ = endpoints_of trace.net in
    let at : ℕ = c.loop-endpoint.endpoint in
    let all : n ≡ at = omega (arith, c.loop-endpoint-test.false, c.loop-endpoint.auto.endpoint-end, c.endpoints-endpoint-end.ensures.number) in
    Passes-same c.loop-endpoint.invariant (ap (λ (endpoints : List ℕ). text_of (flat_map (answer_lines trace) endpoints)) (take_all at (range_with_len 0 n) (omega (arith, all, length-range_with_len 0 n))))
