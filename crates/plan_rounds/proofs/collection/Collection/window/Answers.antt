use Rattle.std.proofs.Common.{ap, arith}
use Rattle.plan_rounds.specs.Standing.{Collected}
use Rattle.plan_rounds.proofs.collection.Collection.window.Goals as goal

pub overflow_add-self : goal.overflow_add-self
overflow_add-self c = omega (arith, c.requires.within, c.rounds-rounds.ensures.sound.few_rounds, ap (λ (half : Collected). half.rounds) c.self.view_is)
