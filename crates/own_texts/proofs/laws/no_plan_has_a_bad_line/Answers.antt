-- Plans.
use Rattle.own_texts.proofs.PlanLines.{no_plan_has_a_bad_line}
use Rattle.own_texts.proofs.laws.no_plan_has_a_bad_line.Goals as goal

pub returns : goal.returns
returns c =
    no_plan_has_a_bad_line c.schedules_go_on.ensures.count c.every_plan_is_recorded.ensures c.every_plan_balances.ensures c.every_plan_adds_what_is_asked.ensures
    c.every_slot_is_in_range.ensures c.each_text_is_read.ensures c.each_text_has_one_reading.ensures c.a_text_of_batches_has_no_bad_line.ensures
