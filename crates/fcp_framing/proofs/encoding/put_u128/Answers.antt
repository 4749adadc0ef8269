use Rattle.std.proofs.Common.{◌-◌, arith, refl}
use Rattle.std.specs.Int.{w128, to_be_bytes}
use Rattle.fcp_framing.proofs.Buffers.{put_mid-with_bytes}
use Rattle.fcp_framing.proofs.encoding.put_u128.Goals as goal

pub returns : goal.returns
returns c = put_mid-with_bytes c.args.at (2048 - c.args.at) 16 (to_be_bytes w128 c.args.n) c.args.buf.now c.write_u128.new.buf (omega (arith, c.told-buf)) refl c.write_u128.ensures
