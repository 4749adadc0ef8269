use Rattle.std.proofs.Common.{length, set, sym, ◌∙◌, ap, subst}
use Rattle.std.proofs.lemmas.List.{length-set}
use Rattle.front_desk.specs.State.{LineState, IsSeatOf}
use Rattle.front_desk.specs.Standing.{AreDeskLines}
use Rattle.front_desk.proofs.Lines.{found, lines-set, closed}
use Rattle.front_desk.proofs.desk.Desk.close.Goals as goal

pub close-requires-clause-line : goal.close-requires-clause-line
close-requires-clause-line c =
    let lines = c.self.inside.lines.items in
    let it = found lines c.args.self.now c.args.seat.endpoint c.endpoint-endpoint.result c.index_mut.result.now c.requires.seat.0 c.self.view_is c.endpoint-endpoint.ensures c.requires.seat.1 c.index_mut.ensures.value in
    (c.endpoint-endpoint.result, length lines, c.self.invariant c.endpoint-endpoint.result c.index_mut.result.now it.here)

pub close-requires-clause-seat : goal.close-requires-clause-seat
close-requires-clause-seat c =
    let lines = c.self.inside.lines.items in
    let it = found lines c.args.self.now c.args.seat.endpoint c.endpoint-endpoint.result c.index_mut.result.now c.requires.seat.0 c.self.view_is c.endpoint-endpoint.ensures c.requires.seat.1 c.index_mut.ensures.value in
    subst (λ (s : LineState). IsSeatOf c.args.seat s) (sym it.state_is) c.requires.seat.2

pub close-requires-clause-progress : goal.close-requires-clause-progress
close-requires-clause-progress c =
    let lines = c.self.inside.lines.items in
    let it = found lines c.args.self.now c.args.seat.endpoint c.endpoint-endpoint.result c.index_mut.result.now c.requires.seat.0 c.self.view_is c.endpoint-endpoint.ensures c.requires.seat.1 c.index_mut.ensures.value in
    ap (λ (s : LineState). s.progress) it.state_is ∙ c.requires.seat.3

pub invariant_of-self : goal.invariant_of-self
invariant_of-self c =
    let lines = c.self.inside.lines.items in
    let at = c.endpoint-endpoint.result in
    let it = found lines c.args.self.now c.args.seat.endpoint at c.index_mut.result.now c.requires.seat.0 c.self.view_is c.endpoint-endpoint.ensures c.requires.seat.1 c.index_mut.ensures.value in
    subst (λ n. AreDeskLines n (set lines at c.close.new.self)) (sym (length-set lines at c.close.new.self))
    (lines-set (length lines) lines at c.index_mut.result.now c.close.new.self c.self.invariant it.here c.close.ensures.line)

pub returns : goal.returns
returns c = λ line here.
    let lines = c.self.inside.lines.items in
    let at = c.endpoint-endpoint.result in
    let it = found lines c.args.self.now c.args.seat.endpoint at c.index_mut.result.now line c.self.view_is c.endpoint-endpoint.ensures here c.index_mut.ensures.value in
    closed lines c.args.self.now c.args.seat.endpoint at c.index_mut.result.now c.close.new.self line c.args.seat.put c.endpoint-endpoint.ensures it c.self.view_is c.close.ensures.front c.close.ensures.closed
