use Rattle.std.proofs.Common.{ap, refl, ◌∙◌, inl, arith, take, drop}
use Rattle.fcp_framing.specs.Spelling.{reset_of, reset_bytes, up_bytes}
use Rattle.fcp_framing.proofs.Buffers.{take-with_bytes, drop-with_bytes}
use Rattle.fcp_framing.proofs.encoding.encode_reset.Goals as goal

pub returns-clause-bytes : goal.returns-clause-bytes
unfolding up_bytes
returns-clause-bytes c = ap (take 8) c.put_head.ensures ∙ take-with_bytes 8 (reset_bytes (reset_of c.args.version c.args.src c.args.epoch)) c.args.buf.now refl

pub returns-clause-spelled : goal.returns-clause-spelled
returns-clause-spelled c = λ endpoints rules.
    inl (record {
      rules = rules;
      fits = record { epoch = omega arith; seq = omega arith; high = omega arith };
      text = ap (take 8) c.put_head.ensures ∙ take-with_bytes 8 (reset_bytes (reset_of c.args.version c.args.src c.args.epoch)) c.args.buf.now refl;
    })

pub returns-clause-rest : goal.returns-clause-rest
returns-clause-rest c = ap (drop 8) c.put_head.ensures ∙ drop-with_bytes 8 (reset_bytes (reset_of c.args.version c.args.src c.args.epoch)) c.args.buf.now refl
