use Rattle.slot_batches.proofs.MarkLemmas.{not_marked}
use Rattle.slot_batches.proofs.DoubtLemmas.{wants_none, nothing_doubted}
use Rattle.slot_batches.proofs.resting.is_doubted.Goals as goal

pub returns : goal.returns
returns c = λ entries marked none.
    let item = c.args.item.now in
    let both = nothing_doubted item.need c.may_share-slots.result c.common_marks-common.result none in
    record {
      no_entry = not_marked entries c.args.marks.now item.flow marked (c.common_marks-common.ensures both.1);
      wants_none = wants_none c.args.filling.now.maps item c.may_share-slots.result c.may_share-slots.ensures both.0;
    }
