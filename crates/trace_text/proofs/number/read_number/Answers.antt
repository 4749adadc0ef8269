use Rattle.std.proofs.Common.{◌≡◌, ◌+◌, get_or, true, ◌∙◌, sym, arith, refl}
use Rattle.std.specs.Char.{is_ascii_digit}
use Rattle.std.specs.List.{list_all}
use Rattle.std.specs.Str.Parse.{digits_value}
use Rattle.std.proofs.lemmas.List.{take_all}
use Rattle.std.proofs.lemmas.List.Folds.{list_all_more}
use Rattle.trace_text.specs.Fields.{number_of}
use Rattle.trace_text.proofs.Digits.{digits_value-more, not_number-at, not_number-large, not_number-shape, number-all}
use Rattle.trace_text.proofs.number.read_number.Goals as goal

pub returns-then-not-has_shape : goal.returns-then-not-has_shape
returns-then-not-has_shape c = not_number-shape c.args.text.now (sym c.has_shape.ensures ∙ c.if-not-has_shape.true)

pub returns-then-not-is_ascii_digit : goal.returns-then-not-is_ascii_digit
returns-then-not-is_ascii_digit c =
    not_number-at c.args.text.now c.loop-byte.byte-index c.loop-byte-test.true (sym c.is_ascii_digit.ensures.value ∙ c.if-not-is_ascii_digit.true)

pub returns-then-value-from : goal.returns-then-value-from
returns-then-value-from c =
    let more = digits_value-more c.args.text.now c.loop-byte.byte-index c.loop-byte-test.true (sym c.is_ascii_digit.ensures.value ∙ c.if-not-is_ascii_digit.false) in
    not_number-large c.args.text.now (c.loop-byte.byte-index + 1) (omega arith)

pub loop-byte-preserved : goal.loop-byte-preserved
loop-byte-preserved c =
    let digit : is_ascii_digit (get_or c.args.text.now c.loop-byte.byte-index 0) ≡ true = sym c.is_ascii_digit.ensures.value ∙ c.if-not-is_ascii_digit.false in
    let more = digits_value-more c.args.text.now c.loop-byte.byte-index c.loop-byte-test.true digit in
    record {
      digits = list_all_more is_ascii_digit c.args.text.now c.loop-byte.byte-index 0 c.loop-byte-test.true ∙ rw (c.loop-byte.invariant.digits, digit) refl;
      value = omega arith;
      small = omega arith;
    }

pub returns : goal.returns
unfolding number_of
returns c =
    let text = c.args.text.now in
    let all = take_all c.loop-byte.byte-index text c.loop-byte-test.false in
    let digits : list_all is_ascii_digit text ≡ true = rw all at c.loop-byte.invariant.digits in
    let value : c.loop-byte.value ≡ digits_value 10 text = rw all at c.loop-byte.invariant.value in
    (number-all text (sym c.has_shape.ensures ∙ c.if-not-has_shape.false) digits (omega arith), value)
