use Rattle.std.proofs.Common.{◌≡◌, ◌==◌, ◌&&◌, ◌||◌, cond, Bool, true, false, refl, ◌∙◌}
use Rattle.takeover_core.specs.Published.{is_heard}
use Rattle.takeover_core.proofs.published.Published.hear.Goals as goal

either : (test was : Bool) → cond test true was ≡ (test || was)
either true was = refl
either false was = refl

pub returns-clause-heard : goal.returns-clause-heard
returns-clause-heard c = λ s n. c.in_ok-insert.ensures.updates.0 (s, n) ∙ either ((c.args.src == s) && (c.args.number == n)) (is_heard c.args.self.now s n)
