use Rattle.std.proofs.Common.{arith}
use Rattle.slot_batches.proofs.DoubtLemmas.{wants_none}
use Rattle.slot_batches.proofs.resting.wanted.Goals as goal

pub returns : goal.returns
returns c = λ none. wants_none c.args.filling.now.maps c.args.item.now c.may_share-slots.result c.may_share-slots.ensures (omega (arith, none, c.min.ensures, c.from.ensures))
