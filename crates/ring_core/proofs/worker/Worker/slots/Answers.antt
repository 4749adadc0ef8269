use Rattle.std.proofs.Common.{◌≡◌, ◌<◌, ◌/◌, ℕ, List, length, get_or, refl, sym, ap, ◌∙◌, subst, arith}
use Rattle.std.proofs.lemmas.Option.{slice_get_read}
use Rattle.greedy_rules.specs.Batches.{DemandBatch}
use Rattle.slot_batches.specs.Stands.{StageState}
use Rattle.ring_core.specs.contracts.worker.Worker.{the_view}
use Rattle.ring_core.specs.States.{WorkerState}
use Rattle.ring_core.specs.Windows.{slots_of_stage}
use Rattle.ring_core.specs.Ends.{WorkerEnds}
use Rattle.ring_core.specs.Workers.{own_stage, HasPlayed, Plays, IsEndedStage, StageHasEnded}
use Rattle.ring_core.proofs.PlayLemmas.{place_within}
use Rattle.ring_core.proofs.BeginLemmas.{ended_within, place_of}
use Rattle.ring_core.proofs.worker.Worker.slots.Goals as goal

-- the place of an ended stage
within : (batches : List DemandBatch) (ends : WorkerEnds) (w : WorkerState) (fed given place : ℕ) → HasPlayed batches ends w fed given → place < w.place → place < length w.stages
within batches ends w fed given place played before =
    place_within w (length batches) place played.is_worker played.count (ended_within w.workers w.number place w.place (length batches) before (omega (arith, played.stage, played.near)))

at_place : (w : WorkerState) (stage by place : ℕ) → by ≡ w.workers → w.number < w.workers → stage ≡ own_stage w.workers w.number place → stage / by ≡ place
at_place w stage by place by_is below is = (λ i. is i / by_is i) ∙ place_of w.workers w.number place below

-- what the code reads there
read : (batches : List DemandBatch) (ends : WorkerEnds) (w : WorkerState) (fed given place at : ℕ) (state : StageState) → HasPlayed batches ends w fed given → place < w.place → at ≡ place → state ≡ get_or w.stages at state
    → StageHasEnded w.endpoints ends.before.window (own_stage w.workers w.number place) state
read batches ends w fed given place at state played before at_is is =
    played.ended place state before
    (slice_get_read w.stages (length w.stages) place state refl (within batches ends w fed given place played before) (is ∙ ap (λ (n : ℕ). get_or w.stages n state) at_is))

pub index-requires : goal.index-requires
index-requires c =
    let w : WorkerState = the_view c.self.inside in
    let it : Plays c.requires.0 c.requires.1 w = subst (Plays c.requires.0 c.requires.1) (sym c.self.view_is) c.requires.2 in
    let ended : IsEndedStage w c.args.stage = subst (λ (v : WorkerState). IsEndedStage v c.args.stage) (sym c.self.view_is) c.requires.3 in
    let here = within c.requires.0 c.requires.1 w it.0 it.1 ended.0 it.2 ended.1 in
    let at = at_place w c.args.stage c.from.result ended.0 c.from.ensures it.2.is_worker.number ended.2 in
    omega (arith, here, at, c.self.inside.stages.ok.0)

pub returns-clause-slots : goal.returns-clause-slots
returns-clause-slots c =
    rw (← c.self.view_is) (λ batches ends plays.
    let w : WorkerState = the_view c.self.inside in
    let ended : IsEndedStage w c.args.stage = subst (λ (v : WorkerState). IsEndedStage v c.args.stage) (sym c.self.view_is) c.requires.3 in
    let at = at_place w c.args.stage c.from.result ended.0 c.from.ensures plays.2.is_worker.number ended.2 in
    let stage = read batches ends w plays.0 plays.1 ended.0 (c.args.stage / c.from.result) c.index.result.now plays.2 ended.1 at c.index.ensures in
    c.slots.ensures.slots ∙ (stage.slots ∙ ap (slots_of_stage ends.before.window) (sym ended.2)))

pub returns-clause-endpoints : goal.returns-clause-endpoints
returns-clause-endpoints c =
    let w : WorkerState = the_view c.self.inside in
    let it : Plays c.requires.0 c.requires.1 w = subst (Plays c.requires.0 c.requires.1) (sym c.self.view_is) c.requires.2 in
    let ended : IsEndedStage w c.args.stage = subst (λ (v : WorkerState). IsEndedStage v c.args.stage) (sym c.self.view_is) c.requires.3 in
    let at = at_place w c.args.stage c.from.result ended.0 c.from.ensures it.2.is_worker.number ended.2 in
    let stage = read c.requires.0 c.requires.1 w it.0 it.1 ended.0 (c.args.stage / c.from.result) c.index.result.now it.2 ended.1 at c.index.ensures in
    c.slots.ensures.endpoints ∙ (stage.work.same_endpoints ∙ ap (λ (v : WorkerState). v.endpoints) c.self.view_is)

pub returns-clause-count : goal.returns-clause-count
returns-clause-count c =
    let w : WorkerState = the_view c.self.inside in
    let it : Plays c.requires.0 c.requires.1 w = subst (Plays c.requires.0 c.requires.1) (sym c.self.view_is) c.requires.2 in
    let ended : IsEndedStage w c.args.stage = subst (λ (v : WorkerState). IsEndedStage v c.args.stage) (sym c.self.view_is) c.requires.3 in
    let at = at_place w c.args.stage c.from.result ended.0 c.from.ensures it.2.is_worker.number ended.2 in
    let stage = read c.requires.0 c.requires.1 w it.0 it.1 ended.0 (c.args.stage / c.from.result) c.index.result.now it.2 ended.1 at c.index.ensures in
    c.slots.ensures.count ∙ (stage.work.same_size ∙ (it.2.window.b_is ∙ ap (λ (v : WorkerState). v.b) c.self.view_is))
