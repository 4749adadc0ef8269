-- A worker whose stages have ended has no nodes.
use Rattle.std.proofs.Common.{◌≡◌, ◌≤◌, List, length, get_or, All, Some, slice_get, refl, arith, inl, inr}
use Rattle.std.proofs.lemmas.Bool.{cases_lt}
use Rattle.std.proofs.lemmas.Nat.{mul-le}
use Rattle.std.proofs.lemmas.Option.{slice_get_read}
use Rattle.std.proofs.lemmas.List.{get_or_default}
use Rattle.greedy_rules.specs.Batches.{DemandBatch}
use Rattle.slot_batches.specs.Stands.{StageState}
use Rattle.ring_core.specs.States.{WorkerState}
use Rattle.ring_core.specs.Ends.{WorkerEnds}
use Rattle.ring_core.specs.Workers.{Plays}

pub all_gone : (batches : List DemandBatch) (ends : WorkerEnds) (w : WorkerState) → Plays batches ends w → length batches ≤ w.stage → All (λ stage. stage.nodes ≡ 0) w.stages
all_gone batches ends w plays ended = λ place d within.
    let played = plays.2 in
    let state : StageState = get_or w.stages place d in
    let is : slice_get w.stages place ≡ Some state = slice_get_read w.stages (length w.stages) place state refl within (get_or_default w.stages place d state within) in
    elim (cases_lt place w.place) [
      | inl before ↦ (played.ended place state before is).none
      | inr past ↦ played.idle place state (omega (arith, ended, played.stage, mul-le w.place w.workers place w.workers past (omega arith))) is
    ]
