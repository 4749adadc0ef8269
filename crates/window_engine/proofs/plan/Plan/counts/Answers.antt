use Rattle.std.proofs.Common.{◌≡◌, ℕ, get_or, sym, ap, ◌∙◌, arith}
use Rattle.trace_text.specs.Trace.{TraceContent}
use Rattle.trace_text.specs.Valid.{IsTrace}
use Rattle.window_engine.specs.Plan.{PlanState, PlanStands}
use Rattle.window_allocation.specs.Needs.{place_of}
use Rattle.window_engine.proofs.PlanLemmas.{Tells, tells_none, tells}
use Rattle.window_engine.proofs.plan.Plan.counts.Goals as goal

pub returns-then-demanded-eq0 : goal.returns-then-demanded-eq0
returns-then-demanded-eq0 c trace sound stands =
    let now = c.args.self.now in
    let flow = c.args.flow in
    let asked : ℕ = c.asked-demanded.result in
    let asked_is : asked ≡ get_or now.collection.asked (place_of now.collection.endpoints flow.src flow.dst) 0 =
    c.asked-demanded.ensures ∙ ap (λ (e : PlanState). get_or e.collection.asked (place_of e.collection.endpoints flow.src flow.dst) 0) c.self.view_is in
    sym (tells_none trace now flow asked sound stands c.every_plan_balances.ensures c.every_plan_adds_what_is_asked.ensures c.every_plan_is_recorded.ensures c.requires.done c.requires.src c.requires.dst asked_is c.if-demanded-eq0.true)

-- what the two tables say where some slot was asked for
told : (c : goal.After-row_known-1) (trace : TraceContent) → IsTrace trace → PlanStands trace c.args.self.now → Tells trace c.args.self.now.allocation.b c.args.flow c.asked-demanded.result c.index-pending.result.now
told c trace sound stands =
    let now = c.args.self.now in
    let flow = c.args.flow in
    let asked : ℕ = c.asked-demanded.result in
    let pending : ℕ = c.index-pending.result.now in
    let asked_is : asked ≡ get_or now.collection.asked (place_of now.collection.endpoints flow.src flow.dst) 0 =
    c.asked-demanded.ensures ∙ ap (λ (e : PlanState). get_or e.collection.asked (place_of e.collection.endpoints flow.src flow.dst) 0) c.self.view_is in
    let pending_is : pending ≡ get_or now.pending (place_of now.endpoints flow.src flow.dst) pending =
    c.index-pending.ensures
    ∙ (ap (λ (n : ℕ). get_or c.self.inside.pending.items n pending) c.place.ensures.place ∙ ap (λ (e : PlanState). get_or e.pending (place_of e.endpoints flow.src flow.dst) pending) c.self.view_is) in
    tells trace now flow asked pending sound stands c.every_plan_balances.ensures c.every_plan_adds_what_is_asked.ensures c.every_plan_is_recorded.ensures c.requires.done c.requires.src c.requires.dst asked_is pending_is

pub overflow_sub-result : goal.overflow_sub-result
overflow_sub-result c = (told c c.requires.stands.0 c.requires.stands.1 c.requires.stands.2).less

pub returns : goal.returns
returns c trace sound stands = sym ((told c trace sound stands).some (omega (arith, c.if-demanded-eq0.false)))
