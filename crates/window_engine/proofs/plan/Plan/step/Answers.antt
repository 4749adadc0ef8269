use Rattle.std.proofs.Common.{◌≡◌, ◌+◌, ◌-◌, min, ℕ, List, ◌++◌, length, take, drop, refl, sym, ap, ◌∙◌, subst, arith}
use Rattle.greedy_rules.specs.Batches.{DemandBatch}
use Rattle.greedy_rules.specs.Schedule.{schedule_from}
use Rattle.plan_rounds.specs.Batches.{plan_batches}
use Rattle.window_allocation.specs.Standing.{Allocated, HasAllocated}
use Rattle.plan_rounds.specs.Standing.{Collected, HasCollected}
use Rattle.window_engine.specs.Plan.{PlanState}
use Rattle.window_allocation.specs.Windows.{WindowContent, IsWindowOf}
use Rattle.window_allocation.specs.Giving.{HandsOn}
use Rattle.window_engine.proofs.PlanLemmas.{stands_too, may_give, next_allocated, pending_room, stands_next, jobs_raised, planned}
use Rattle.window_engine.proofs.plan.Plan.step.Goals as goal

pub open_window-requires : goal.open_window-requires
open_window-requires g c =
    let trace = c.args.trace.now in
    may_give trace _ c.deref.result.now c.min-count.result c.rounds-rounds.ensures.sound (stands_too trace _ _ c.self.view_is c.requires.stands) c.every_plan_is_recorded.ensures c.recorded_batches_may_be_applied.ensures.front
    (omega (arith, c.min-count.ensures, c.from.ensures, c.rounds-first.ensures)) (c.deref.ensures.value ∙ c.in_ok-batches.ensures.batches)

pub fill-requires-clause-may : goal.fill-requires-clause-may
fill-requires-clause-may g c κs within =
    let trace = c.args.trace.now in
    may_give trace _ c.deref-2.result.now c.min-count.result c.rounds-rounds.ensures.sound (stands_too trace _ _ c.self.view_is c.requires.stands) c.every_plan_is_recorded.ensures c.recorded_batches_may_be_applied.ensures.front
    (omega (arith, c.min-count.ensures, c.from.ensures, c.rounds-first.ensures)) (c.deref-2.ensures.value ∙ c.in_ok-batches.ensures.batches)

pub end-requires-clause-allocated : goal.end-requires-clause-allocated
end-requires-clause-allocated g c =
    let trace = c.args.trace.now in
    let has =
    next_allocated trace _ c.deref-2.result.now c.min-count.result c.fill.new.self c.rounds-rounds.ensures.sound (stands_too trace _ _ c.self.view_is c.requires.stands) c.every_plan_is_recorded.ensures c.recorded_batches_may_be_applied.ensures.front
    (c.deref-2.ensures.value ∙ c.in_ok-batches.ensures.batches) c.fill.ensures.stands in
    (trace.net, c.self.inside.g, take c.self.inside.collection.rounds (plan_batches trace) ++ c.deref-2.result.now, has)

pub end-requires-clause-pending : goal.end-requires-clause-pending
end-requires-clause-pending g c =
    let trace = c.args.trace.now in
    let stands = stands_too trace _ _ c.self.view_is c.requires.stands in
    let has =
    next_allocated trace _ c.deref-2.result.now c.min-count.result c.fill.new.self c.rounds-rounds.ensures.sound stands c.every_plan_is_recorded.ensures c.recorded_batches_may_be_applied.ensures.front
    (c.deref-2.ensures.value ∙ c.in_ok-batches.ensures.batches) c.fill.ensures.stands in
    pending_room trace _ (take c.self.inside.collection.rounds (plan_batches trace) ++ c.deref-2.result.now) c.fill.new.self c.self.inside.pending.items stands has refl

pub returns-clause-stands : goal.returns-clause-stands
returns-clause-stands g c =
    let trace = c.args.trace.now in
    let stands = stands_too trace _ _ c.self.view_is c.requires.stands in
    let k : ℕ = c.self.inside.collection.rounds in
    let count_is : c.min-count.result ≡ min c.self.inside.g (c.self.inside.rounds - k) = omega (arith, c.min-count.ensures, c.from.ensures, c.rounds-first.ensures) in
    let are = c.deref-2.ensures.value ∙ c.in_ok-batches.ensures.batches in
    let has =
    next_allocated trace _ c.deref-2.result.now c.min-count.result c.fill.new.self c.rounds-rounds.ensures.sound stands c.every_plan_is_recorded.ensures c.recorded_batches_may_be_applied.ensures.front are c.fill.ensures.stands in
    stands_next trace _ c.end.new.self c.deref-2.result.now stands c.end.ensures.g c.end.ensures.endpoints c.end.ensures.rounds (are ∙ ap (λ (m : ℕ). take m (drop k (plan_batches trace))) count_is)
    (subst (HasCollected trace) (sym c.end.ensures.collection) c.in_ok-batches.ensures.stands)
    (ap (λ (half : Collected). half.rounds) c.end.ensures.collection ∙ (c.in_ok-batches.ensures.rounds ∙ ap (λ (m : ℕ). k + m) count_is))
    (subst (HasAllocated trace.net c.self.inside.g (take k (plan_batches trace) ++ c.deref-2.result.now)) (sym c.end.ensures.allocation) has) c.end.ensures.ended c.end.ensures.pending

pub returns-clause-jobs : goal.returns-clause-jobs
returns-clause-jobs g c =
    jobs_raised _ _ c.deref-2.result.now c.end.new.self.allocation.paths.jobs c.in_ok-shared.shared.value.span c.self.view_is (ap (λ (w : WindowContent). w.span) c.in_ok-shared.ensures.ok ∙ c.fill.ensures.span)
    (ap (λ (half : Allocated). half.paths.jobs) c.end.ensures.allocation ∙ c.fill.ensures.jobs)

pub returns-clause-planned : goal.returns-clause-planned
returns-clause-planned g c =
    let trace = c.args.trace.now in
    let half : Allocated = c.self.inside.allocation in
    let given = c.in_ok-shared.ensures.ok in
    let Shown : List DemandBatch → WindowContent → Type 0 = λ bs w. IsWindowOf half.paths.net half.b (schedule_from half.b half.batches half.list.items bs) w in
    planned trace _ _ c.in_ok-batches.batches.items c.min-count.result c.rounds-first.result c.in_ok-shared.shared.value c.self.view_is c.rounds-rounds.ensures.sound (stands_too trace _ _ c.self.view_is c.requires.stands) c.every_plan_is_recorded.ensures
    c.schedules_go_on.ensures.more c.schedules_go_on.ensures.front c.schedules_go_on.ensures.count c.rounds-first.ensures (omega (arith, c.min-count.ensures, c.from.ensures, c.rounds-first.ensures)) c.in_ok-batches.ensures.batches
    (ap (λ (w : WindowContent). w.span) given ∙ subst (λ (bs : List DemandBatch). c.fill.new.window.span ≡ record { first = half.batches; count = length bs }) c.deref-2.ensures.value c.fill.ensures.span)
    (subst (Shown c.in_ok-batches.batches.items) (sym given) (subst (λ (bs : List DemandBatch). Shown bs c.fill.new.window) c.deref-2.ensures.value c.fill.ensures.window))

pub returns-clause-workers : goal.returns-clause-workers
returns-clause-workers g c =
    ap (λ (half : Allocated). half.ring.workers) c.end.ensures.allocation ∙ (c.fill.ensures.workers ∙ ap (λ (e : PlanState). e.allocation.ring.workers) c.self.view_is)

pub returns-clause-paths : goal.returns-clause-paths
returns-clause-paths g c =
    ap (λ (half : Allocated). half.paths.paths) c.end.ensures.allocation ∙ (c.fill.ensures.paths ∙ ap (λ (e : PlanState). e.allocation.paths.paths) c.self.view_is)

pub returns-clause-handed : goal.returns-clause-handed
returns-clause-handed g c =
    let batches : List DemandBatch = c.in_ok-batches.batches.items in
    let window = c.fill.new.window in
    subst (λ (e : PlanState). HandsOn e.allocation batches c.end.new.self.allocation c.in_ok-shared.shared.value) c.self.view_is
    (subst (HandsOn c.self.inside.allocation batches c.end.new.self.allocation) (sym c.in_ok-shared.ensures.ok)
    (subst (λ (half : Allocated). HandsOn c.self.inside.allocation batches half window) (sym c.end.ensures.allocation)
    (subst (λ (bs : List DemandBatch). HandsOn c.self.inside.allocation bs c.fill.new.self window) c.deref-2.ensures.value c.fill.ensures.handed)))
