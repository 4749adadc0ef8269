use Rattle.std.proofs.Common.{arith}
use Rattle.std.proofs.lemmas.List.Elements.{All-more}
use Rattle.greedy_rules.specs.declared.flows.Item.{Item}
use Rattle.slot_batches.specs.Rests.{ItemRests}
use Rattle.slot_batches.proofs.resting.resting_each.Goals as goal

abbrev nothing : Item
nothing = record { flow = record { src = 0; dst = 0 }; need = 0; last = 0 }

pub loop-at-preserved : goal.loop-at-preserved
loop-at-preserved c = record {
  within = omega (arith, c.loop-at-test.true);
  rest = λ entries marked.
      All-more (ItemRests entries c.args.unopened c.args.filling.now.maps) c.args.items.now c.loop-at.at nothing c.loop-at-test.true (c.loop-at.invariant.rest entries marked) (c.rests.ensures entries marked c.if-rests.true);
}
