use Rattle.std.proofs.Common.{◌++◌, List, ℕ, ap, codes}
use Rattle.report_text.specs.Lines.{core_field}
use Rattle.schedule_audit.proofs.FrontLines.{four_fields}
use Rattle.schedule_audit.proofs.front.front_slot.Goals as goal

pub returns-clause-spelled : goal.returns-clause-spelled
returns-clause-spelled c =
    ap (λ (bytes : List ℕ). codes "slot" ++ bytes)
    (four_fields c.args.text.now c.in_ok-slot.rest.now c.in_ok-src.rest.now c.in_ok-dst.rest.now (core_field c.in_ok-core.core) c.in_ok-core.rest.now c.in_ok-slot.slot c.in_ok-src.src c.in_ok-dst.dst
    c.in_ok-slot.ensures.0 c.in_ok-src.ensures.0 c.in_ok-dst.ensures.0 c.in_ok-core.ensures.0)
