use Rattle.std.proofs.Common.{◌++◌, arith, length-append}
use Rattle.trace_text.proofs.PieceFacts.{piece-more}
use Rattle.trace_text.proofs.reader.TraceReader.take.Goals as goal

pub returns-then-len-self : goal.returns-then-len-self
returns-then-len-self c = λ command text read.
    let self = c.args.self.now in
    (read.0, rw c.in_ok-extend_from_slice.ensures.items (piece-more command text self.rows self.is_start self.left.items c.args.piece.now self.refused read.1))

pub take_rows-requires-clause-may_read : goal.take_rows-requires-clause-may_read
take_rows-requires-clause-may_read c =
    let self = c.args.self.now in
    let piece = c.args.piece.now in
    let (command, text, read, few) = c.requires in (
      command,
      text ++ piece,
      (read.0, rw c.in_ok-extend_from_slice.ensures.items (piece-more command text self.rows self.is_start self.left.items piece self.refused read.1)),
      omega (arith, few, length-append text piece),
    )

pub returns : goal.returns
returns c = λ command text read.
    let self = c.args.self.now in
    let piece = c.args.piece.now in
    c.take_rows.ensures command (text ++ piece) (read.0, rw c.in_ok-extend_from_slice.ensures.items (piece-more command text self.rows self.is_start self.left.items piece self.refused read.1))
