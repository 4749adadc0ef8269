use Rattle.std.proofs.Common.{◌∙◌, arith}
use Rattle.trace_text.proofs.WholeLineFacts.{lines-room, lines-then}
use Rattle.trace_text.proofs.whole_lines.take_whole_lines.Goals as goal

pub loop-more-preserved : goal.loop-more-preserved
loop-more-preserved c =
    let command = c.args.command in
    let rows = c.loop-more.rows in
    let new = c.take_first.new.rows in
    let rest = c.loop-more.rest.now in
    let more = c.in-Some.more.now in
    let (before, stands) = c.loop-more.invariant.kept in
    let taken = rw c.in-Some.is at (c.in_ok-more.ensures.rows before stands) in
    record {
      kept = (taken.0, taken.1);
      lines = λ start s.
          let lines = c.loop-more.invariant.lines start s in
          lines-then command start c.args.text.now rest more rows new lines (rw c.in-Some.is at (c.in_ok-more.ensures.rows lines.0 lines.1));
      room = lines-room command before rest more rows new stands taken ∙ c.loop-more.invariant.room;
      fewer = omega (arith, c.loop-more.invariant.fewer, rw c.in-Some.is at c.in_ok-more.ensures.fewer);
    }
