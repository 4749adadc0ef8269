use Rattle.std.proofs.Common.{◌≡◌, sym, subst, arith}
use Rattle.crossbeam_queue.specs.Passes.{view}
use Rattle.path_workers.specs.declared.jobs.Hand.{Hand}
use Rattle.path_workers.proofs.QueueLemmas.{takes, learns}
use Rattle.path_workers.proofs.jobs.take_last.Goals as goal

pub pop_as-requires-clause-rule : goal.pop_as-requires-clause-rule
pop_as-requires-clause-rule g c =
    let p : (view c.take.new.pass).parts ≡ 17 = subst (λ (v : Hand). v.parts ≡ 17) (sym c.in-None.ensures.taken) c.requires.parts in
    (takes _ _ (omega (arith, p)), learns _ _ p)
