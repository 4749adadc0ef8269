use Rattle.std.proofs.Common.{◌++◌, List, ℕ, ap, codes}
use Rattle.schedule_audit.proofs.FrontLines.{five_fields}
use Rattle.schedule_audit.proofs.front.front_flow.Goals as goal

pub returns-clause-spelled : goal.returns-clause-spelled
returns-clause-spelled c =
    ap (λ (bytes : List ℕ). codes "flow" ++ bytes)
    (five_fields c.args.text.now c.in_ok-src.rest.now c.in_ok-dst.rest.now c.in_ok-demanded.rest.now c.in_ok-allocated.rest.now c.in_ok-pending.rest.now c.in_ok-src.src c.in_ok-dst.dst c.in_ok-demanded.demanded
    c.in_ok-allocated.allocated c.in_ok-pending.pending c.in_ok-src.ensures.0 c.in_ok-dst.ensures.0 c.in_ok-demanded.ensures.0 c.in_ok-allocated.ensures.0 c.in_ok-pending.ensures.0)
