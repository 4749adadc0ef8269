use Rattle.std.proofs.Common.{arith}
use Rattle.fcp_framing.proofs.Numbers.{AreBytes}
use Rattle.fcp_framing.proofs.UpLaws.{is_spelled, is_only}
use Rattle.fcp_framing.proofs.upward.decode_up.Goals as goal

pub returns-clause-spelled : goal.returns-clause-spelled
returns-clause-spelled c =
    let fits : AreBytes c.args.bytes.now = record { below = λ i. omega (arith, c.type_inv.bytes i) } in
    is_spelled c.args.endpoints c.args.bytes.now c.read_up.result c.read_up.new.into c.requires fits c.read_up.ensures.refused c.read_up.ensures.read

pub returns-clause-only : goal.returns-clause-only
returns-clause-only c = λ up spelled. is_only c.args.endpoints c.args.bytes.now c.read_up.result c.read_up.new.into up c.read_up.ensures.refused c.read_up.ensures.read spelled
