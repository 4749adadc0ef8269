use Rattle.std.proofs.Common.{true, [], arith}
use Rattle.trace_text.proofs.PieceFacts.{given-more, none-given, taken-room, text-read}
use Rattle.trace_text.proofs.reader.read_trace.Goals as goal

pub read_rest-requires-clause-room : goal.read_rest-requires-clause-room
read_rest-requires-clause-room c =
    let bytes = c.args.bytes.now in
    let rows = c.in_ok-rows.rows in
    let given = given-more c.args.command [] rows true [] bytes (none-given c.args.command rows c.in_ok-rows.ensures) in
    rw c.without_mark.ensures (omega (arith, taken-room c.args.command bytes rows true bytes given, c.requires))

pub returns-clause-accepted : goal.returns-clause-accepted
returns-clause-accepted c =
    let bytes = c.args.bytes.now in
    let rows = c.in_ok-rows.rows in
    let given = given-more c.args.command [] rows true [] bytes (none-given c.args.command rows c.in_ok-rows.ensures) in
    (text-read c.args.command bytes rows true bytes c.read_rest.result given (rw c.without_mark.ensures at (c.read_rest.ensures given.0 given.1))).0

pub returns-clause-refused : goal.returns-clause-refused
returns-clause-refused c =
    let bytes = c.args.bytes.now in
    let rows = c.in_ok-rows.rows in
    let given = given-more c.args.command [] rows true [] bytes (none-given c.args.command rows c.in_ok-rows.ensures) in
    (text-read c.args.command bytes rows true bytes c.read_rest.result given (rw c.without_mark.ensures at (c.read_rest.ensures given.0 given.1))).2
