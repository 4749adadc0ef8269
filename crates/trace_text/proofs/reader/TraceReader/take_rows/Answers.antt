use Rattle.std.proofs.Common.{◌≡◌, refl, arith}
use Rattle.trace_text.proofs.PieceFacts.{faulty-on, sound-taken, taken-on, taken-room}
use Rattle.trace_text.proofs.reader.TraceReader.take_rows.Goals as goal

pub take_whole_lines-requires-clause-room : goal.take_whole_lines-requires-clause-room
take_whole_lines-requires-clause-room c =
    let self = c.args.self.now in
    let (command, text, read, few) = c.requires.may_read in
    let taken = sound-taken command text self.rows self.is_start self.left.items self.refused c.requires.sound read.1 in
    rw (c.left_behind_mark-left.ensures, c.deref.ensures.value) (omega (arith, taken-room command text self.rows self.is_start self.left.items taken, few))

pub returns-in_ok-extend_from_slice-in-Ok : goal.returns-in_ok-extend_from_slice-in-Ok
returns-in_ok-extend_from_slice-in-Ok c = λ command text read.
    let self = c.args.self.now in
    let rest = c.in-Ok.rest.now in
    let taken = sound-taken command text self.rows self.is_start self.left.items self.refused c.requires.sound read.1 in
    let lines = rw (c.left_behind_mark-left.ensures, c.deref.ensures.value, read.0) at (c.in-Ok.ensures.rows taken.0 taken.1) in
    let items : c.swap.new.x.items ≡ rest = rw (c.swap.ensures.x_after, c.in_ok-extend_from_slice-in-Ok.ensures.items, c.clear.ensures.items) refl in
    (read.0, rw (c.requires.sound, items) (taken-on command text self.rows c.take_whole_lines.new.rows self.is_start self.left.items rest c.requires.enough taken lines))

pub returns-in-Err : goal.returns-in-Err
returns-in-Err c = λ command text read.
    let self = c.args.self.now in
    let taken = sound-taken command text self.rows self.is_start self.left.items self.refused c.requires.sound read.1 in
    let told = rw (c.left_behind_mark-left.ensures, c.deref.ensures.value, read.0) at (c.in-Err.ensures.rows taken.0 taken.1) in
    (read.0, faulty-on command text self.rows self.is_start self.left.items c.in-Err.refused c.requires.enough taken told)
