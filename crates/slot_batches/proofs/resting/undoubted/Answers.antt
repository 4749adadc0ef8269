use Rattle.std.proofs.Common.{get_or, arith}
use Rattle.std.proofs.lemmas.List.Elements.{All-more}
use Rattle.greedy_rules.specs.declared.flows.Item.{Item}
use Rattle.slot_batches.specs.Rests.{ItemRests}
use Rattle.slot_batches.proofs.DoubtLemmas.{undoubted_rests}
use Rattle.slot_batches.proofs.resting.undoubted.Goals as goal

abbrev nothing : Item
nothing = record { flow = record { src = 0; dst = 0 }; need = 0; last = 0 }

pub loop-at-preserved : goal.loop-at-preserved
loop-at-preserved c = record {
  within = omega (arith, c.loop-at-test.true);
  rest = λ entries marked.
      All-more (ItemRests entries 0 c.args.filling.now.maps) c.args.items.now c.loop-at.at nothing c.loop-at-test.true (c.loop-at.invariant.rest entries marked)
      (undoubted_rests entries c.args.filling.now.maps (get_or c.args.items.now c.loop-at.at nothing) (c.is_doubted.ensures entries marked c.if-not-is_doubted.true));
}
