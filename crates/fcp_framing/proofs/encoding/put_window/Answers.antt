use Rattle.std.proofs.Common.{◌≤◌, ◌++◌, length, refl, arith}
use Rattle.std.specs.Int.{w32, to_be_bytes}
use Rattle.fcp_framing.specs.Versions.{mask_width}
use Rattle.fcp_framing.proofs.Buffers.{wrote_then}
use Rattle.fcp_framing.proofs.encoding.put_window.Goals as goal

pub returns : goal.returns
returns c =
    let buf = c.args.buf.now in
    let room : 16 ≤ length buf = omega (arith, c.told-buf) in
    let high = wrote_then 8 12 (to_be_bytes w32 c.args.seq) (to_be_bytes w32 c.args.high) buf c.put_u32.new.buf c.put_u32-2.new.buf c.put_u32.ensures c.put_u32-2.ensures refl (omega arith) in
    wrote_then 8 16 (to_be_bytes w32 c.args.seq ++ to_be_bytes w32 c.args.high) (to_be_bytes (mask_width c.args.version) c.args.mask) buf c.put_u32-2.new.buf c.put_mask.new.buf high c.put_mask.ensures refl room
