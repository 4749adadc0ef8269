use Rattle.std.proofs.Common.{sym, ◌∙◌}
use Rattle.schedule_audit.specs.Totals.{is_wrong_total}
use Rattle.schedule_audit.proofs.NeedSteps.{total-step}
use Rattle.schedule_audit.proofs.figures.Figures.first_wrong.Goals as goal

pub loop-total-preserved : goal.loop-total-preserved
loop-total-preserved c = λ b expected count figures short.
    c.loop-total.invariant b expected count figures short
    ∙ total-step (is_wrong_total b expected count) c.args.totals.now c.loop-total.total-index _ c.loop-total-test.true (sym (c.is_wrong.ensures b expected count figures short) ∙ c.if-is_wrong.false)
