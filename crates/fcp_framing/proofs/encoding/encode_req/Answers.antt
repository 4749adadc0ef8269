use Rattle.std.proofs.Common.{◌≡◌, length, ap, ◌∙◌, inr, arith, refl, false}
use Rattle.fcp_framing.specs.Spelling.{request_bytes, up_bytes}
use Rattle.fcp_framing.proofs.Encoded.{request_encoded, IsWritten}
use Rattle.fcp_framing.proofs.encoding.encode_req.Goals as goal

written : (c : goal.After-put_demands) → IsWritten (request_bytes c.args.packet.now) c.put_demands.result c.args.buf.now c.put_demands.new.buf
written c =
    request_encoded c.args.packet.now c.as_slice-demands.result.now c.mask_end-end.result c.put_demands.result c.args.buf.now c.put_head.new.buf c.put_window.new.buf c.put_u16.new.buf c.put_demands.new.buf
    c.mask_end-end.ensures.end c.put_demands.ensures.end (omega (arith, c.told-buf, c.mask_end-end.ensures.within)) c.as_slice-demands.ensures.value c.put_head.ensures c.put_window.ensures c.put_u16.ensures c.put_demands.ensures.list

-- the bytes of a request
request_is : (c : goal.After-put_demands) → request_bytes c.args.packet.now ≡ up_bytes c.args.packet.now
unfolding up_bytes
request_is c = let kind : c.args.packet.now.reset ≡ false = c.requires.1.kind in rw kind refl

pub returns-clause-bytes : goal.returns-clause-bytes
returns-clause-bytes c = (written c).text ∙ request_is c

pub returns-clause-spelled : goal.returns-clause-spelled
returns-clause-spelled c = λ endpoints rules. inr (record {
  rules = rules;
  fits = record { epoch = omega arith; seq = omega arith; high = omega arith };
  text = (written c).text;
})

pub returns-clause-length : goal.returns-clause-length
returns-clause-length c = (written c).len ∙ ap length (request_is c)

pub returns-clause-rest : goal.returns-clause-rest
returns-clause-rest c = (written c).rest
