use Rattle.std.proofs.Common.{arith}
use Rattle.std.proofs.lemmas.Bool.{eqb-true}
use Rattle.slot_batches.proofs.MarkLemmas.{not_marked}
use Rattle.slot_batches.proofs.DoubtLemmas.{none_open_before, opened_before}
use Rattle.slot_batches.proofs.resting.rests.Goals.{else-unopened-gt0-via-then-unopened-gt0+else-item-gt0, else-unopened-gt0-via-else-unopened-gt0}
use Rattle.slot_batches.proofs.resting.rests.Goals as goal

pub returns : goal.returns
returns c = λ entries marked told.
    let item = c.args.item.now in
    record {
      no_entry = not_marked entries c.args.marks.now item.flow marked (c.common_marks.ensures (eqb-true c.common_marks.result 0 told));
      none_opens = elim c.else-unopened-gt0.branch [
        | else-unopened-gt0-via-then-unopened-gt0+else-item-gt0 w ↦ none_open_before item.last c.args.unopened (omega (arith, w.if-item-gt0.false))
        | else-unopened-gt0-via-else-unopened-gt0 w ↦ opened_before item.last c.args.unopened (omega (arith, w.if-unopened-gt0.false))
      ];
      takes_none = c.must_wait.ensures c.if-not-must_wait.false;
    }
