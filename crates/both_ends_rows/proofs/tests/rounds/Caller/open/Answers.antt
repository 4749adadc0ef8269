use Rattle.std.proofs.Common.{◌-◌, arith}
use Rattle.both_ends_rows.proofs.Playing.{opened}
use Rattle.both_ends_rows.proofs.tests.rounds.Caller.open.Goals as goal

pub returns : goal.returns
returns c =
    let e = c.in_ok-open.ensures in
    opened c.in_ok-open.field-0 (1 - c.args.endpoint) c.args.endpoint e.endpoint e.endpoints e.b e.g e.whole e.stands (omega arith) (λ same. absurd (omega (arith, same, c.requires)))
