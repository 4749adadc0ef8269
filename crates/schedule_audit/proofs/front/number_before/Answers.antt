use Rattle.std.proofs.Common.{◌≢◌, ◌<◌, ◌≤◌, ◌∙◌, length, sym, arith}
use Rattle.std.proofs.lemmas.Bool.{eqb-false}
use Rattle.schedule_audit.proofs.FrontLines.{first_one, one_more}
use Rattle.schedule_audit.proofs.front.number_before.Goals as goal

pub loop-at-init : goal.loop-at-init
loop-at-init c =
    let text = c.args.text.now in
    let some : length text ≢ 0 = eqb-false (length text) 0 (sym c.is_empty.ensures ∙ c.if-is_empty.false) in
    record {
      spelled = first_one text c.in_ok-value.value (omega (arith, some)) c.in_ok-value.ensures.0 c.in_ok-value.ensures.1;
      within = omega (arith, some);
    }

pub loop-at-preserved : goal.loop-at-preserved
loop-at-preserved c =
    let text = c.args.text.now in
    let at = c.loop-at.at in
    let within : at < length text = omega (arith, c.loop-at-test.true) in
    let small : c.loop-at.value ≤ 4294967295 = omega (arith, c.if-value-most.true, c.requires) in
    record {
      spelled = one_more text at c.loop-at.value c.in_ok-value-2.field-0 within c.loop-at.invariant.spelled (omega (arith, c.if-value-eq0.false)) small c.in_ok-value-2.ensures.1 c.in_ok-value-2.ensures.0;
      within = omega (arith, within);
    }
