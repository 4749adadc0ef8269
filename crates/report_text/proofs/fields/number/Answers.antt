use Rattle.std.proofs.Common.{IsSomeAnd, refl, ◌≡◌, ◌∙◌, sym, ap, subst, inl, inr, length, get_or, List, ℕ, IfSome, decimal}
use Rattle.std.specs.Str.{IsUtf8}
use Rattle.std.specs.Str.Parse.{ParsesUnsigned}
use Rattle.report_text.proofs.NumberText.{decimal_no_plus, decimal_zero, decimal_utf8, parsed_is_decimal, decimal_is_parsed}
use Rattle.report_text.proofs.fields.number.Goals as goal

pub returns-then-not-begins_plain-clause-only : goal.returns-then-not-begins_plain-clause-only
returns-then-not-begins_plain-clause-only c = λ n small is. elim (c.if-not-begins_plain.ensures) [
  | inl plus ↦ absurd (decimal_no_plus n small (ap (λ (ds : List ℕ). get_or ds 0 0) (sym is) ∙ plus))
  | inr zeros ↦ absurd (zeros.1 (ap length is ∙ decimal_zero n small (ap (λ (ds : List ℕ). get_or ds 0 0) (sym is) ∙ zeros.0)))
]

pub returns-in_default-clause-only : goal.returns-in_default-clause-only
returns-in_default-clause-only c = λ n small is. absurd (c.in_default.ensures.cases.0 (subst IsUtf8 (sym is) (decimal_utf8 n small)))

pub returns-clause-spelled : goal.returns-clause-spelled
returns-clause-spelled c =
    let plain = c.if-not-begins_plain.ensures in
    let read = subst (λ l. ParsesUnsigned 64 10 l c.parse.result) c.in-Ok.ensures.cases.0 c.parse.ensures.value.0 in
    subst (λ r. IfSome r (λ n. c.args.field.now ≡ decimal n)) (sym c.ok.ensures.value) (parsed_is_decimal c.args.field.now c.parse.result plain.0 plain.1 read)

pub returns-clause-only : goal.returns-clause-only
returns-clause-only c = λ n small is.
    let read = subst (λ l. ParsesUnsigned 64 10 l c.parse.result) c.in-Ok.ensures.cases.0 c.parse.ensures.value.0 in
    subst (λ r. IsSomeAnd r (λ m. m ≡ n)) (sym (c.ok.ensures.value ∙ decimal_is_parsed c.args.field.now c.parse.result n small is read)) refl
