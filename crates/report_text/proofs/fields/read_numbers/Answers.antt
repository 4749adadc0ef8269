use Rattle.std.proofs.Common.{◌≡◌, ◌+◌, ◌<◌, ◌≤◌, ◌++◌, [], ◌∷◌, ◌∙◌, sym, ap, arith, take, drop, get_or, length, length-set, List, ℕ}
use Rattle.std.proofs.lemmas.List.{take_more, take_more_set, take_all, drop-set-lt}
use Rattle.report_text.specs.Lines.{number_fields}
use Rattle.report_text.proofs.Pieces.{later_rest}
use Rattle.report_text.proofs.Within.{within_each, within_at, left_here, within_more}
use Rattle.report_text.proofs.NumbersRead.{numbers_begin, numbers_then, numbers_next}
use Rattle.report_text.proofs.fields.read_numbers.Goals as goal

pub returns-in_err-number-clause-only : goal.returns-in_err-number-clause-only
returns-in_err-number-clause-only c = λ ns after len within next is.
    let i = c.loop-value.value-index in
    let bounds = c.args.values.now in
    let so_far = c.loop-value.invariant.only ns after (omega (arith, len, c.loop-value.invariant.count)) within next is in
    let below : i < length ns = omega (arith, len, c.loop-value.invariant.count) in
    let most : get_or ns i 0 ≤ get_or c.loop-value.values i 0 = omega (arith, within_at bounds ns within i (omega (arith, c.loop-value.invariant.count)), left_here i c.loop-value.values bounds c.loop-value.invariant.left) in
    absurd (c.in_err-number.ensures.only (get_or ns i 0) (number_fields (drop (i + 1) ns) ++ after) most (numbers_begin (drop (i + 1) ns) after next) (numbers_next i c.loop-value.rest.now ns after below so_far.1))

pub loop-value-preserved : goal.loop-value-preserved
loop-value-preserved c =
    let i = c.loop-value.value-index in
    let values = c.loop-value.values in
    let bounds = c.args.values.now in
    let number = c.in_ok-number.number in
    let more = c.in_ok-number.more.now in
    let below : i < length values = omega arith in
    let bound = left_here i values bounds c.loop-value.invariant.left in
    let grown = take_more_set values i number below in
    record {
      count = length-set values i number ∙ c.loop-value.invariant.count;
      left = drop-set-lt (i + 1) values i number (omega arith) ∙ later_rest i (i + 1) values bounds (omega arith) c.loop-value.invariant.left;
      spelled = c.loop-value.invariant.spelled ∙ (ap (λ (bs : List ℕ). number_fields (take i values) ++ bs) c.in_ok-number.ensures.spelled.0
          ∙ (numbers_then (take i values) more number ∙ ap (λ (xs : List ℕ). number_fields xs ++ more) (sym grown)));
      within = within_more i number values bounds below c.loop-value.invariant.within (omega (arith, c.in_ok-number.ensures.spelled.1, bound));
      only = λ ns after len within next is.
          let len' : length ns ≡ length values = omega (arith, len, length-set values i number) in
          let below' : i < length ns = omega (arith, len') in
          let so_far = c.loop-value.invariant.only ns after len' within next is in
          let most : get_or ns i 0 ≤ get_or values i 0 = omega (arith, within_at bounds ns within i (omega (arith, c.loop-value.invariant.count)), bound) in
          let read = c.in_ok-number.ensures.only (get_or ns i 0) (number_fields (drop (i + 1) ns) ++ after) most (numbers_begin (drop (i + 1) ns) after next) (numbers_next i c.loop-value.rest.now ns after below' so_far.1) in
          (grown ∙ (ap (λ (xs : List ℕ). xs ++ number ∷ []) so_far.0 ∙ (ap (λ (n : ℕ). take i ns ++ n ∷ []) read.0 ∙ sym (take_more ns i 0 below'))), read.1);
    }

pub returns-clause-spelled : goal.returns-clause-spelled
returns-clause-spelled c =
    let values = c.loop-value.values in
    let whole : take c.loop-value.value-index values ≡ values = take_all c.loop-value.value-index values (omega (arith, c.loop-value.invariant.count)) in (
      c.loop-value.invariant.spelled ∙ ap (λ (xs : List ℕ). number_fields xs ++ c.loop-value.rest.now) whole,
      within_each c.args.values.now values (λ k under. c.loop-value.invariant.within k (omega arith)),
    )
