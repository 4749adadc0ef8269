use Rattle.std.proofs.Common.{◌∙◌, sym, arith}
use Rattle.std.proofs.lemmas.Bool.{cond-false, ne_eqb}
use Rattle.ack_window.specs.Versions.{span_of}
use Rattle.ack_window.proofs.Bits.{bit_at-kept}
use Rattle.ack_window.proofs.Spans.{span-most}
use Rattle.ack_window.proofs.take_window.mask_up_to.Goals as goal

pub returns-clause-bits : goal.returns-clause-bits
returns-clause-bits c = λ i within.
    bit_at-kept _ (span_of c.args.version) _ i c.all_bits.ensures within
    ∙ c.slid.ensures i (omega (arith, span-most c.args.version))
    ∙ sym (cond-false _ _ _ (ne_eqb c.args.high 0 c.if-high-eq0.false))
