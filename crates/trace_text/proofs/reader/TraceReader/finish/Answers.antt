use Rattle.std.proofs.Common.{arith}
use Rattle.trace_text.proofs.PieceFacts.{faulty-read, sound-taken, taken-room, text-read}
use Rattle.trace_text.proofs.reader.TraceReader.finish.Goals as goal

pub returns-in-Some-clause-refused : goal.returns-in-Some-clause-refused
returns-in-Some-clause-refused c = λ command text read. faulty-read command text c.in-Some.refused (rw c.in-Some.is at read.1)

pub read_rest-requires-clause-room : goal.read_rest-requires-clause-room
read_rest-requires-clause-room c =
    let self = c.args.self in
    let (command, text, read, few) = c.requires in
    let taken = sound-taken command text self.rows self.is_start self.left.items self.refused c.in_default.is read.1 in
    rw (c.left_behind_mark.ensures, c.deref.ensures.value) (omega (arith, taken-room command text self.rows self.is_start self.left.items taken, few))

pub returns-clause-accepted : goal.returns-clause-accepted
returns-clause-accepted c = λ command text read.
    let self = c.args.self in
    let taken = sound-taken command text self.rows self.is_start self.left.items self.refused c.in_default.is read.1 in
    let rest = rw (c.left_behind_mark.ensures, c.deref.ensures.value, read.0) at (c.read_rest.ensures taken.0 taken.1) in
    (text-read command text self.rows self.is_start self.left.items c.read_rest.result taken rest).0

pub returns-clause-refused : goal.returns-clause-refused
returns-clause-refused c = λ command text read.
    let self = c.args.self in
    let taken = sound-taken command text self.rows self.is_start self.left.items self.refused c.in_default.is read.1 in
    let rest = rw (c.left_behind_mark.ensures, c.deref.ensures.value, read.0) at (c.read_rest.ensures taken.0 taken.1) in
    (text-read command text self.rows self.is_start self.left.items c.read_rest.result taken rest).2
