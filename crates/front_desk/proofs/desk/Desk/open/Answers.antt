use Rattle.std.proofs.Common.{◌+◌, List, [], ◌∷◌, ◌++◌, sym, subst, arith}
use Rattle.front_desk.specs.State.{SeatState}
use Rattle.front_desk.specs.declared.line.Line.{Line}
use Rattle.front_desk.specs.Standing.{AreDeskLines}
use Rattle.front_desk.proofs.Lines.{HaveOpened, opened-more}
use Rattle.front_desk.proofs.desk.Desk.open.Goals as goal

pub loop-endpoint-preserved : goal.loop-endpoint-preserved
loop-endpoint-preserved c =
    let state = c.in_ok-line.ensures.state in
    let count = c.loop-endpoint.endpoint + 1 in
    subst (λ (lines : List Line). HaveOpened c.args.endpoints c.args.b c.args.g c.args.room count lines c.push-in-loop-endpoint.new.self.items) (sym c.in_ok-push.ensures.items)
    (subst (λ (seats : List SeatState). HaveOpened c.args.endpoints c.args.b c.args.g c.args.room count (c.loop-endpoint.lines.items ++ c.in_ok-line.line ∷ []) seats) (sym c.in_ok-push-2.ensures.items)
    (opened-more c.args.endpoints c.args.b c.args.g c.args.room c.loop-endpoint.endpoint c.loop-endpoint.lines.items c.loop-endpoint.seats.items c.in_ok-line.line c.in_ok-line.seat state.0 c.loop-endpoint.invariant c.in_ok-line.ensures.line state.1 state.2))

pub invariant_of-result : goal.invariant_of-result
invariant_of-result c =
    let some = c.loop-endpoint.invariant in
    subst (λ n. AreDeskLines n c.loop-endpoint.lines.items) (omega (arith, some.many, c.loop-endpoint-test.false, c.loop-endpoint.auto.endpoint-end)) some.stand
