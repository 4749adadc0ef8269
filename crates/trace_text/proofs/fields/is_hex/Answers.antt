use Rattle.std.proofs.Common.{◌≡◌, get_or, true, refl, sym, ◌∙◌}
use Rattle.std.proofs.lemmas.List.{take_all}
use Rattle.std.proofs.lemmas.List.Folds.{list_all_more}
use Rattle.hex.specs.Hex.{is_hex_digit}
use Rattle.trace_text.proofs.HexFacts.{not_hex-at, hex-all}
use Rattle.trace_text.proofs.fields.is_hex.Goals as goal

pub returns-then-not-is_hex_digit : goal.returns-then-not-is_hex_digit
returns-then-not-is_hex_digit c =
    sym (not_hex-at c.args.text.now c.loop-byte.byte-index c.loop-byte-test.true (sym c.is_hex_digit.ensures ∙ c.if-not-is_hex_digit.true))

pub loop-byte-preserved : goal.loop-byte-preserved
loop-byte-preserved c =
    let digit : is_hex_digit (get_or c.args.text.now c.loop-byte.byte-index 0) ≡ true = sym c.is_hex_digit.ensures ∙ c.if-not-is_hex_digit.false in
    list_all_more is_hex_digit c.args.text.now c.loop-byte.byte-index 0 c.loop-byte-test.true ∙ rw (c.loop-byte.invariant, digit) refl

pub returns : goal.returns
returns c = sym (hex-all c.args.text.now (rw (take_all c.loop-byte.byte-index c.args.text.now c.loop-byte-test.false) at c.loop-byte.invariant))
