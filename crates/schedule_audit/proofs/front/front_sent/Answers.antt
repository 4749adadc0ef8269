use Rattle.std.proofs.Common.{◌++◌, List, ℕ, ap, codes}
use Rattle.schedule_audit.proofs.FrontLines.{three_fields}
use Rattle.schedule_audit.proofs.front.front_sent.Goals as goal

pub returns-clause-spelled : goal.returns-clause-spelled
returns-clause-spelled c =
    ap (λ (bytes : List ℕ). codes "sent" ++ bytes)
    (three_fields c.args.text.now c.in_ok-slot.rest.now c.in_ok-src.rest.now c.in_ok-dst.rest.now c.in_ok-slot.slot c.in_ok-src.src c.in_ok-dst.dst c.in_ok-slot.ensures.0 c.in_ok-src.ensures.0 c.in_ok-dst.ensures.0)
