use Rattle.std.proofs.Common.{arith}
use Rattle.run_lines.specs.Text.{refused_line}
use Rattle.text_output.proofs.OutputLemmas.{Passes-after, Passes-broken}
use Rattle.text_output.proofs.ItemTexts.{items_more, items_whole}
use Rattle.run_lines.proofs.rounds.put_answers.Goals as goal

pub loop-at-preserved : goal.loop-at-preserved
loop-at-preserved g c =
    let answers = c.args.answers.now in
    Passes-after c.loop-at.invariant c.in_ok-put_answer.ensures (items_more (refused_line c.args.round) answers c.loop-at.at _ (omega arith))

pub returns-in_err-put_answer : goal.returns-in_err-put_answer
returns-in_err-put_answer g c =
    let answers = c.args.answers.now in
    Passes-broken _ c.loop-at.invariant c.in_err-put_answer.ensures c.from_residual.ensures.1 (items_whole (refused_line c.args.round) answers c.loop-at.at _ (omega arith))
