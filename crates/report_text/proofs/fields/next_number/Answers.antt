use Rattle.std.proofs.Common.{◌<◌, ◌^◌, ◌∙◌, ap, drop, decimal, arith}
use Rattle.report_text.proofs.NumberText.{decimal_no_comma, cut_field}
use Rattle.report_text.proofs.fields.next_number.Goals as goal

pub returns-in_err-number-clause-only : goal.returns-in_err-number-clause-only
returns-in_err-number-clause-only c = λ n rest within next is.
    let small : n < 2 ^ 64 = omega arith in
    let behind = c.in_ok-text.ensures.cases.1 ∙ ap (drop 1) is in
    let cut = cut_field c.in_ok-text.text.now (decimal n) rest c.field_len.result behind (decimal_no_comma n small) next c.field_len.ensures.within c.field_len.ensures.before c.field_len.ensures.comma in
    absurd (c.in_err-number.ensures.only n small (c.split_at.ensures.front ∙ cut.0))

pub returns-then-number-most-clause-only : goal.returns-then-number-most-clause-only
returns-then-number-most-clause-only c = λ n rest within next is.
    let small : n < 2 ^ 64 = omega arith in
    let behind = c.in_ok-text.ensures.cases.1 ∙ ap (drop 1) is in
    let cut = cut_field c.in_ok-text.text.now (decimal n) rest c.field_len.result behind (decimal_no_comma n small) next c.field_len.ensures.within c.field_len.ensures.before c.field_len.ensures.comma in
    let read = c.in_ok-number.ensures.only n small (c.split_at.ensures.front ∙ cut.0) in
    absurd (omega arith)

pub returns-clause-only : goal.returns-clause-only
returns-clause-only c = λ n rest within next is.
    let small : n < 2 ^ 64 = omega arith in
    let behind = c.in_ok-text.ensures.cases.1 ∙ ap (drop 1) is in
    let cut = cut_field c.in_ok-text.text.now (decimal n) rest c.field_len.result behind (decimal_no_comma n small) next c.field_len.ensures.within c.field_len.ensures.before c.field_len.ensures.comma in
    let read = c.in_ok-number.ensures.only n small (c.split_at.ensures.front ∙ cut.0) in
    (read, c.split_at.ensures.back ∙ cut.1)
