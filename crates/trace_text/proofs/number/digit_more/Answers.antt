use Rattle.std.proofs.Common.{◌≡◌, get_or, true, ◌∙◌, sym, arith, refl}
use Rattle.std.specs.Char.{is_ascii_digit}
use Rattle.std.proofs.lemmas.List.Folds.{list_all_more}
use Rattle.trace_text.proofs.Digits.{digits_value-more}
use Rattle.trace_text.proofs.number.digit_more.Goals as goal

pub returns-clause-digits : goal.returns-clause-digits
returns-clause-digits c =
    let digit : is_ascii_digit (get_or c.args.text.now c.args.at 0) ≡ true = sym c.is_ascii_digit.ensures.value ∙ c.if-not-is_ascii_digit.false in
    list_all_more is_ascii_digit c.args.text.now c.args.at 0 c.requires.within ∙ rw (c.requires.digits, digit) refl

pub returns-clause-value : goal.returns-clause-value
returns-clause-value c =
    let digit : is_ascii_digit (get_or c.args.text.now c.args.at 0) ≡ true = sym c.is_ascii_digit.ensures.value ∙ c.if-not-is_ascii_digit.false in
    let more = digits_value-more c.args.text.now c.args.at c.requires.within digit in
    omega arith
