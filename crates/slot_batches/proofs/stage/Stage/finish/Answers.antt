use Rattle.std.proofs.Common.{false, sym, subst}
use Rattle.slot_batches.specs.Stands.{StageState, Stands}
use Rattle.slot_batches.proofs.stage.Stage.finish.Goals as goal

pub returns-clause-stands : goal.returns-clause-stands
returns-clause-stands c = λ fed given with.
    let was = subst (λ (s : StageState). Stands c.args.batch.now fed false given s) (sym c.self.view_is) with in
    record {
      arrays = c.finish.ensures.stands fed given was.arrays;
      nodes = was.nodes;
    }
