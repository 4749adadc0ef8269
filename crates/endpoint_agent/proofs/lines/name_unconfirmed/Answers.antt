use Rattle.std.proofs.Common.{◌+◌, refl, sym, ◌∙◌, arith, length}
use Rattle.endpoint_agent.specs.State.{line_at}
use Rattle.endpoint_agent.proofs.Naming.{unconfirmed_in-next, unconfirmed_in-same, past-lines, marked-still, room_for_one}
use Rattle.endpoint_agent.proofs.lines.name_unconfirmed.Goals as goal

pub loop-dst-init : goal.loop-dst-init
loop-dst-init c = record {
  named = c.requires.empty
      ∙ sym (unconfirmed_in-same c.args.acknowledged c.args.lines.now 0 c.next_from-dst.result (omega arith)
      (λ dst above below. c.requires.marked dst (c.next_from-dst.ensures.first dst above below)));
  marked = c.requires.marked;
  most = c.next_from-dst.ensures.most;
}

pub name_flow-requires-clause-room : goal.name_flow-requires-clause-room
name_flow-requires-clause-room c = λ named.
    let (me, below, own) = c.requires.own in
    rw c.loop-dst.invariant.named (room_for_one c.args.acknowledged c.args.lines.now me c.loop-dst.dst own (omega (arith, c.requires.most, c.loop-dst-test.true)) (omega (arith, c.requires.most, below)) named)

pub loop-dst-preserved : goal.loop-dst-preserved
loop-dst-preserved c =
    let lines = c.args.lines.now in
    let dst = c.loop-dst.dst in
    let next = c.next_from-dst-in-loop-dst in
    let marked = marked-still c.args.acknowledged c.loop-dst.unconfirmed c.name_flow.new.unconfirmed lines dst (line_at lines dst) c.loop-dst.invariant.marked refl c.name_flow.ensures.marked in
    record {
      named = rw c.loop-dst.invariant.named at c.name_flow.ensures.named
          ∙ sym (unconfirmed_in-next c.args.acknowledged dst lines)
          ∙ sym (unconfirmed_in-same c.args.acknowledged lines (dst + 1) next.result next.ensures.from (λ other above below. marked other (next.ensures.first other above below)));
      marked = marked;
      most = next.ensures.most;
    }

pub returns-clause-named : goal.returns-clause-named
returns-clause-named c =
    c.loop-dst.invariant.named
    ∙ unconfirmed_in-same c.args.acknowledged c.args.lines.now (length c.args.lines.now) c.loop-dst.dst (omega (arith, c.loop-dst-test.false)) (λ dst past below. past-lines c.args.acknowledged c.args.lines.now dst past)
