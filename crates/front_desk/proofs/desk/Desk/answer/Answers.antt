use Rattle.std.proofs.Common.{◌≡◌, ◌<◌, List, length, IfSome, Some, slice_get, sym, ◌∙◌, ap, subst}
use Rattle.front_desk.specs.State.{LineState}
use Rattle.front_desk.specs.Answers.{answers_of}
use Rattle.front_desk.specs.Standing.{IsDeskLine}
use Rattle.front_desk.proofs.Lines.{line_at, state_at, length-states}
use Rattle.front_desk.proofs.desk.Desk.answer.Goals as goal

pub answer-requires-clause-line : goal.answer-requires-clause-line
answer-requires-clause-line c =
    let lines = c.self.inside.lines.items in
    (c.args.endpoint, length lines, c.self.invariant c.args.endpoint c.index.result.now (line_at lines c.args.self.now c.args.endpoint c.index.result.now c.self.view_is c.requires.endpoint c.index.ensures))

pub answer-requires-clause-taken : goal.answer-requires-clause-taken
answer-requires-clause-taken c =
    let lines = c.self.inside.lines.items in
    let here = line_at lines c.args.self.now c.args.endpoint c.index.result.now c.self.view_is c.requires.endpoint c.index.ensures in
    subst (λ found. IfSome found (λ (line : LineState). c.args.at < length line.taken)) (state_at lines c.args.self.now c.args.endpoint c.index.result.now c.self.view_is here) c.requires.taken

pub returns : goal.returns
returns c =
    let lines = c.self.inside.lines.items in
    let here = line_at lines c.args.self.now c.args.endpoint c.index.result.now c.self.view_is c.requires.endpoint c.index.ensures in
    subst (λ found. IfSome found (λ (line : LineState). slice_get (answers_of c.args.endpoint (length c.args.self.now) line.taken) c.args.at ≡ Some c.answer.result))
    (sym (state_at lines c.args.self.now c.args.endpoint c.index.result.now c.self.view_is here))
    (c.answer.ensures c.args.endpoint (length c.args.self.now)
    (subst (λ n. IsDeskLine c.args.endpoint n c.index.result.now) (sym (length-states lines) ∙ ap (λ (states : List LineState). length states) c.self.view_is) (c.self.invariant c.args.endpoint c.index.result.now here)))
