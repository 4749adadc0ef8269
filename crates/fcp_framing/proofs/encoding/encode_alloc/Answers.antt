use Rattle.std.proofs.Common.{arith}
use Rattle.fcp_framing.specs.Spelling.{down_bytes}
use Rattle.fcp_framing.proofs.Encoded.{allocation_encoded, IsWritten}
use Rattle.fcp_framing.proofs.encoding.encode_alloc.Goals as goal

written : (c : goal.After-put_told) → IsWritten (down_bytes c.args.packet.now) c.put_told.result c.args.buf.now c.put_told.new.buf
written c =
    allocation_encoded c.args.packet.now c.as_slice-told.result.now c.mask_end-end.result c.put_told.result c.args.buf.now c.put_head.new.buf c.put_window.new.buf c.put_u32.new.buf c.put_u16.new.buf c.put_told.new.buf
    c.mask_end-end.ensures.end c.put_told.ensures.end (omega (arith, c.told-buf, c.mask_end-end.ensures.within)) c.as_slice-told.ensures.value c.put_head.ensures c.put_window.ensures c.put_u32.ensures c.put_u16.ensures c.put_told.ensures.list

pub returns-clause-bytes : goal.returns-clause-bytes
returns-clause-bytes c = (written c).text

pub returns-clause-spelled : goal.returns-clause-spelled
returns-clause-spelled c = λ endpoints slots rules. record {
  rules = rules;
  fits = record { epoch = omega arith; seq = omega arith; high = omega arith; batch = omega arith };
  text = (written c).text;
}

pub returns-clause-length : goal.returns-clause-length
returns-clause-length c = (written c).len

pub returns-clause-rest : goal.returns-clause-rest
returns-clause-rest c = (written c).rest
