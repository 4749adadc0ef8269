use Rattle.std.proofs.Common.{◌≡◌, ◌+◌, ◌++◌, ◌<◌, ℕ, List, length, map, take, drop, Some, slice_get, ap, subst, ◌∙◌, arith}
use Rattle.std.specs.List.{range_with_len}
use Rattle.std.proofs.lemmas.List.{take_all}
use Rattle.std.proofs.lemmas.List.FromFn.{length-range_with_len}
use Rattle.std.proofs.lemmas.Option.{get_or_from_slice_get}
use Rattle.report_text.specs.declared.line.Line.TheVariants as line
use Rattle.report_text.specs.Names.{IsAnswer}
use Rattle.text_output.specs.Text.{line_text, text_of}
use Rattle.text_output.proofs.OutputLemmas.{Passes-after, Passes-broken, Passes-same}
use Rattle.receive_text.specs.ReceiveText.{answer_line, answers_to}
use Rattle.receive_text.proofs.Recording.{answers-many, answers-named, answered}
use Rattle.receive_text.proofs.Texts.{lines_more, lines_rest}
use Rattle.receive_text.proofs.write.put_answers.Goals as goal

pub put_line-requires : goal.put_line-requires
put_line-requires g c =
    let trace = c.args.trace.now in
    let endpoint : ℕ = c.args.endpoint in
    let answers = answers_to trace endpoint in
    let at : ℕ = c.loop-at.at in
    let below : at < length answers = omega (arith, c.loop-at-test.true, c.loop-at.auto.at-end, c.put_count-at-end.ensures.number, answers-many trace endpoint) in
    let there : slice_get answers at ≡ Some c.answer.result = answered trace c.args.desk.now endpoint at c.answer.result c.requires.received c.requires.endpoint c.answer.ensures in
    subst IsAnswer (get_or_from_slice_get answers at c.answer.result 0 there) (answers-named trace endpoint at below)

pub loop-at-preserved : goal.loop-at-preserved
loop-at-preserved g c =
    let trace = c.args.trace.now in
    let endpoint : ℕ = c.args.endpoint in
    let answers = answers_to trace endpoint in
    let lines = answer_line endpoint answers in
    let at : ℕ = c.loop-at.at in
    let below : at < length answers = omega (arith, c.loop-at-test.true, c.loop-at.auto.at-end, c.put_count-at-end.ensures.number, answers-many trace endpoint) in
    let there : slice_get answers at ≡ Some c.answer.result = answered trace c.args.desk.now endpoint at c.answer.result c.requires.received c.requires.endpoint c.answer.ensures in
    let told : line_text (lines at) ≡ line_text (line.Answer endpoint at c.answer.result) = ap (λ (n : ℕ). line_text (line.Answer endpoint at n)) (get_or_from_slice_get answers at c.answer.result 0 there) in
    Passes-after c.loop-at.invariant c.in_ok-put_line.ensures
    (lines_more lines (length answers) at below ∙ ap (λ (t : List ℕ). text_of (map lines (take at (range_with_len 0 (length answers)))) ++ t) told)

pub returns-in_err-put_line : goal.returns-in_err-put_line
returns-in_err-put_line g c =
    let trace = c.args.trace.now in
    let endpoint : ℕ = c.args.endpoint in
    let answers = answers_to trace endpoint in
    let lines = answer_line endpoint answers in
    let at : ℕ = c.loop-at.at in
    let below : at < length answers = omega (arith, c.loop-at-test.true, c.loop-at.auto.at-end, c.put_count-at-end.ensures.number, answers-many trace endpoint) in
    let there : slice_get answers at ≡ Some c.answer.result = answered trace c.args.desk.now endpoint at c.answer.result c.requires.received c.requires.endpoint c.answer.ensures in
    let told : line_text (lines at) ≡ line_text (line.Answer endpoint at c.answer.result) = ap (λ (n : ℕ). line_text (line.Answer endpoint at n)) (get_or_from_slice_get answers at c.answer.result 0 there) in
    let later : List ℕ = text_of (map lines (drop (at + 1) (range_with_len 0 (length answers)))) in
    Passes-broken later c.loop-at.invariant c.in_err-put_line.ensures c.from_residual.ensures.1
    (lines_rest lines (length answers) (at + 1)
    ∙ ap (λ (t : List ℕ). t ++ later) (lines_more lines (length answers) at below ∙ ap (λ (t : List ℕ). text_of (map lines (take at (range_with_len 0 (length answers)))) ++ t) told))

pub returns : goal.returns
returns g c =
    let trace = c.args.trace.now in
    let endpoint : ℕ = c.args.endpoint in
    let answers = answers_to trace endpoint in
    let at : ℕ = c.loop-at.at in
    let all : length answers ≡ at = omega (arith, c.loop-at-test.false, c.loop-at.auto.at-end, c.put_count-at-end.ensures.number, answers-many trace endpoint) in
    Passes-same c.loop-at.invariant
    (ap (λ (places : List ℕ). text_of (map (answer_line endpoint answers) places)) (take_all at (range_with_len 0 (length answers)) (omega (arith, all, length-range_with_len 0 (length answers)))))
