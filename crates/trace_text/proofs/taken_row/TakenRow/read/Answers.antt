use Rattle.std.proofs.Common.{sym, ◌∙◌}
use Rattle.csv.specs.Records.{fields_of}
use Rattle.trace_text.proofs.ReadFacts.{reads-lose, reads-twice}
use Rattle.trace_text.proofs.taken_row.TakenRow.read.Goals as goal

pub returns-in-Net : goal.returns-in-Net
returns-in-Net c = rw c.in-Net.is (c.read_net.ensures c.args.command)

pub returns-in-Lose : goal.returns-in-Lose
returns-in-Lose c =
    let takes = rw c.in-Lose.is at (sym c.takes.ensures ∙ c.if-not-takes.false) in
    let may = rw (c.in-Lose.is, c.len.ensures) at (sym c.may_have.ensures ∙ c.if-not-may_have.false) in
    rw c.in-Lose.is (reads-lose c.args.command (fields_of c.args.fields.now) c.read_fate.result takes may c.read_fate.ensures)

pub returns-in-Twice : goal.returns-in-Twice
returns-in-Twice c =
    let takes = rw c.in-Twice.is at (sym c.takes.ensures ∙ c.if-not-takes.false) in
    let may = rw (c.in-Twice.is, c.len.ensures) at (sym c.may_have.ensures ∙ c.if-not-may_have.false) in
    rw c.in-Twice.is (reads-twice c.args.command (fields_of c.args.fields.now) c.read_fate-in-Twice.result takes may c.read_fate-in-Twice.ensures)
