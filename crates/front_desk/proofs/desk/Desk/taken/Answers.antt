use Rattle.std.proofs.Common.{◌≡◌, length, IfSome, sym, subst}
use Rattle.front_desk.proofs.Lines.{line_at, state_at}
use Rattle.front_desk.proofs.desk.Desk.taken.Goals as goal

pub taken-requires : goal.taken-requires
taken-requires c =
    let lines = c.self.inside.lines.items in
    (c.args.endpoint, length lines, c.self.invariant c.args.endpoint c.index.result.now (line_at lines c.args.self.now c.args.endpoint c.index.result.now c.self.view_is c.requires c.index.ensures))

pub returns : goal.returns
returns c =
    let lines = c.self.inside.lines.items in
    let here = line_at lines c.args.self.now c.args.endpoint c.index.result.now c.self.view_is c.requires c.index.ensures in
    subst (λ found. IfSome found (λ line. c.taken.result ≡ length line.taken)) (sym (state_at lines c.args.self.now c.args.endpoint c.index.result.now c.self.view_is here)) c.taken.ensures
