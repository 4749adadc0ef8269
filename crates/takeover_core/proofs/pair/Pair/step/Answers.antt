use Rattle.std.proofs.Common.{◌∷◌}
use Rattle.std.specs.Prelude.{Result, Ok, Err, OnOk}
use Rattle.takeover_core.specs.Outcomes.{Promises}
use Rattle.takeover_core.proofs.pair.Pair.step.Goals as goal

whatever : {A B : Type 0} → (result : Result A B) (P : Type 0) → P → OnOk result P
whatever (Ok value) P holds = holds
whatever (Err error) P holds = tt

pub returns-clause-promised : goal.returns-clause-promised
returns-clause-promised c =
    whatever c.happen.result (Promises c.args.self.now c.args.event)
    (λ setting events stands may. c.what_is_promised.ensures setting (c.args.event ∷ events))
