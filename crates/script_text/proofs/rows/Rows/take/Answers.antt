use Rattle.std.proofs.Common.{ap, ◌∙◌}
use Rattle.script_text.specs.Standing.{as_script_row}
use Rattle.script_text.proofs.Adding.{stands-more}
use Rattle.script_text.proofs.rows.Rows.take.Goals as goal

pub returns-in_ok-push-in-Ok : goal.returns-in_ok-push-in-Ok
returns-in_ok-push-in-Ok c = λ before stands. (
  c.in-Ok.row,
  c.judge.ensures.row before stands ∙ ap as_script_row c.in-Ok.is,
  stands-more before c.args.self.now c.push.new.self c.in-Ok.row stands c.in-Ok.ensures.allowed c.in_ok-push-in-Ok.ensures,
)
