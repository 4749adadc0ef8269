use Rattle.std.proofs.Common.{arith}
use Rattle.fcp_framing.proofs.Buffers.{set-with_bytes}
use Rattle.fcp_framing.proofs.encoding.put_u8.Goals as goal

pub returns : goal.returns
returns c = set-with_bytes c.args.at c.args.n c.args.buf.now (omega (arith, c.told-buf))
