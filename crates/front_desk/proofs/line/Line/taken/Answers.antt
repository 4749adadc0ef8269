use Rattle.std.proofs.Common.{◌∙◌}
use Rattle.rtrb.specs.Ring.{received}
use Rattle.front_desk.proofs.Reading.{as_many_answers}
use Rattle.front_desk.proofs.line.Line.taken.Goals as goal

pub returns : goal.returns
returns c =
    let line = c.args.self.now in
    let it = c.requires in
    c.len.ensures ∙ (line.answers.ok.0 ∙ as_many_answers it.0 it.1 (received line.ring) line.answers.items it.2.answers_are)
