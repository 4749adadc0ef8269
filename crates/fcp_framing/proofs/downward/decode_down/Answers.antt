use Rattle.std.proofs.Common.{arith}
use Rattle.fcp_framing.proofs.Numbers.{AreBytes}
use Rattle.fcp_framing.proofs.DownLaws.{is_spelled, is_only}
use Rattle.fcp_framing.proofs.downward.decode_down.Goals as goal

pub returns-clause-spelled : goal.returns-clause-spelled
returns-clause-spelled c =
    let fits : AreBytes c.args.bytes.now = record { below = λ i. omega (arith, c.type_inv.bytes i) } in
    is_spelled c.args.endpoints c.args.slots c.args.bytes.now c.read_down.result c.read_down.new.into c.requires fits c.read_down.ensures.refused c.read_down.ensures.read

pub returns-clause-only : goal.returns-clause-only
returns-clause-only c = λ down spelled. is_only c.args.endpoints c.args.slots c.args.bytes.now c.read_down.result c.read_down.new.into down c.read_down.ensures.refused c.read_down.ensures.read spelled
