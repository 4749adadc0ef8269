use Rattle.std.proofs.Common.{◌≡◌, ◌≤◌, ◌∙◌, ℕ, Some, slice_get, List, length, All, None, sym, ap, subst, arith}
use Rattle.slot_batches.specs.Stands.{StageState, stage_endpoints}
use Rattle.ring_core.specs.contracts.worker.Worker.{the_view}
use Rattle.ring_core.specs.States.{WorkerState}
use Rattle.ring_core.specs.Workers.{own_stage, HaveBegun, IsWorker}
use Rattle.ring_core.proofs.BeginLemmas.{begun_played, worker_with, written}
use Rattle.ring_core.proofs.worker.Worker.begin.Goals as goal

pub begin_stages-requires-clause-few : goal.begin_stages-requires-clause-few
begin_stages-requires-clause-few c = omega (arith, c.requires.may.most, c.requires.worker.few_batches)

pub returns-clause-worker : goal.returns-clause-worker
returns-clause-worker c =
    let w : WorkerState = the_view c.self.inside in
    let new : List StageState = c.begin_stages.new.stages in
    let is_worker : IsWorker w = subst IsWorker (sym c.self.view_is) c.requires.worker in
    let all : All (λ stage. stage_endpoints stage ≡ w.endpoints) c.deref_mut.result.now = subst (All (λ stage. stage_endpoints stage ≡ w.endpoints)) (sym c.deref_mut.ensures.value) is_worker.endpoints in
    let count : length new ≡ length w.stages = c.begin_stages.ensures.count ∙ ap length c.deref_mut.ensures.value in
    let items = written c.self.inside.stages new c.deref_mut.result.now c.deref_mut.ensures.value c.begin_stages.ensures.count in
    subst (λ (xs : List StageState). IsWorker (record w { stages = xs; place = 0; stage = c.from-self-inside.result; taken = 0; sent = c.args.sent; held = None })) (sym items)
    (worker_with w new c.args.sent c.from-self-inside.result is_worker count (c.begin_stages.ensures.endpoints w.endpoints all) c.begin_stages.ensures.sizes)

pub returns-clause-plays : goal.returns-clause-plays
returns-clause-plays c =
    rw (← c.self.view_is) (λ window is_window sent_is.
    let w : WorkerState = the_view c.self.inside in
    let new : List StageState = c.begin_stages.new.stages in
    let is_worker : IsWorker w = subst IsWorker (sym c.self.view_is) c.requires.worker in
    let most : length c.args.batches.now ≤ w.batches = subst (λ (v : WorkerState). length c.args.batches.now ≤ v.batches) (sym c.self.view_is) c.requires.may.most in
    let all : All (λ stage. stage_endpoints stage ≡ w.endpoints) c.deref_mut.result.now = subst (All (λ stage. stage_endpoints stage ≡ w.endpoints)) (sym c.deref_mut.ensures.value) is_worker.endpoints in
    let items = written c.self.inside.stages new c.deref_mut.result.now c.deref_mut.ensures.value c.begin_stages.ensures.count in
    let begun = subst (HaveBegun w.endpoints w.b c.args.first_batch c.args.batches.now w.workers w.number) (sym items) (c.begin_stages.ensures.begun w.endpoints all) in
    let idle = subst (λ (xs : List StageState). (place : ℕ) (state : StageState) → length c.args.batches.now ≤ own_stage w.workers w.number place → slice_get xs place ≡ Some state → state.nodes ≡ 0) (sym items) c.begin_stages.ensures.idle in
    (0, 0, begun_played w window c.args.first_batch c.args.batches.now is_window c.args.sent c.from-self-inside.result _ most sent_is c.from-self-inside.ensures (returns-clause-worker c) begun idle))
