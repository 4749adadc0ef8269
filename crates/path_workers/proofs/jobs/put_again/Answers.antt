use Rattle.std.proofs.Common.{◌<◌, sym, subst}
use Rattle.path_workers.specs.declared.jobs.Hand.{Hand}
use Rattle.path_workers.proofs.QueueLemmas.{puts}
use Rattle.path_workers.proofs.jobs.put_again.Goals as goal

pub try_push_as-requires-clause-rule : goal.try_push_as-requires-clause-rule
try_push_as-requires-clause-rule g c = puts _ _ _ _ (subst (λ (v : Hand). 0 < v.parts) (sym c.loop.invariant.same) c.requires.parts)
