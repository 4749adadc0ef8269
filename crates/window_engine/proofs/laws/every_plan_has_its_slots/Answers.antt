use Rattle.std.proofs.Common.{◌*◌, ℕ, [], ap, ◌∙◌}
use Rattle.plan_rounds.specs.Batches.{plan_batches}
use Rattle.window_engine.proofs.laws.every_plan_has_its_slots.Goals as goal

pub returns : goal.returns
returns c b trace sound =
    let count = (c.every_plan_is_recorded.ensures trace sound).1 in
    (count, c.schedules_go_on.ensures.count b 0 [] (plan_batches trace) ∙ ap (λ (n : ℕ). n * b) count)
