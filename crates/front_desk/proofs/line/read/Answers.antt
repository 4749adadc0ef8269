use Rattle.front_desk.proofs.Reading.{has_read-more}
use Rattle.front_desk.proofs.line.read.Goals as goal

pub returns-clause-read : goal.returns-clause-read
returns-clause-read c =
    let taken_up = c.take_up-answer.ensures in
    has_read-more c.args.lane.now c.take_up-answer.new.self c.args.round c.number_of.result c.bytes.result.now c.args.packet.now c.args.answers.now.items c.push_reserved.new.self.items _
    taken_up.answer taken_up.unchanged taken_up.stands taken_up.same.endpoint taken_up.same.endpoints taken_up.same.round c.requires.round c.bytes.ensures c.number_of.ensures c.push_reserved.ensures.items
