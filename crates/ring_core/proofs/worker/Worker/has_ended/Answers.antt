use Rattle.std.proofs.Common.{ap, arith}
use Rattle.std.proofs.lemmas.Bool.{leb-true}
use Rattle.ring_core.specs.States.{WorkerState}
use Rattle.ring_core.proofs.GoneLemmas.{all_gone}
use Rattle.ring_core.proofs.worker.Worker.has_ended.Goals as goal

pub returns-clause-none : goal.returns-clause-none
returns-clause-none c = λ played ends plays count is.
    all_gone played ends c.args.self.now plays (omega (arith, count, leb-true c.args.batches c.self.inside.stage is, ap (λ (w : WorkerState). w.stage) c.self.view_is))
