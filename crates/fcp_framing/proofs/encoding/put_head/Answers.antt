use Rattle.std.proofs.Common.{◌≤◌, [], ◌∷◌, length, refl, arith}
use Rattle.std.specs.Int.{w16, w32, to_be_bytes}
use Rattle.fcp_framing.proofs.Buffers.{wrote_then}
use Rattle.fcp_framing.proofs.encoding.put_head.Goals as goal

pub returns : goal.returns
returns c =
    let buf = c.args.buf.now in
    let begin = c.args.version ∷ c.args.kind ∷ [] in
    let room : 4 ≤ length buf = omega (arith, c.told-buf) in
    let kind = wrote_then 0 1 (c.args.version ∷ []) (c.args.kind ∷ []) buf c.put_u8.new.buf c.put_u8-2.new.buf c.put_u8.ensures c.put_u8-2.ensures refl (omega arith) in
    let endpoint = wrote_then 0 2 begin (to_be_bytes w16 c.args.endpoint) buf c.put_u8-2.new.buf c.put_u16.new.buf kind c.put_u16.ensures refl (omega arith) in
    wrote_then 0 4 (c.args.version ∷ c.args.kind ∷ to_be_bytes w16 c.args.endpoint) (to_be_bytes w32 c.args.epoch) buf c.put_u16.new.buf c.put_u32.new.buf endpoint c.put_u32.ensures refl room
