use Rattle.std.proofs.Common.{◌≡◌, ℕ, subst, sym, ap, ◌∙◌, Some, inl, inr, arith}
use Rattle.std.proofs.lemmas.Bool.{cases_lt}
use Rattle.report_text.specs.Names.{IsRefusal, answer_name as name_of}
use Rattle.report_text.proofs.RefusalNames.{one_name, refusal_below}
use Rattle.report_text.proofs.names.number_named.Goals as goal

pub loop-number-init : goal.loop-number-init
loop-number-init c = λ k below refusal same. omega (arith, (refusal_below k refusal).0)

pub loop-number-preserved : goal.loop-number-preserved
loop-number-preserved c = λ k below refusal same.
    elim (cases_lt k c.loop-number.number) [
      | inl before ↦ c.loop-number.invariant k before refusal same
      | inr last ↦ let here : k ≡ c.loop-number.number = omega arith in c.if-is_named.ensures (subst IsRefusal here refusal) (same ∙ ap name_of here)
    ]

pub returns-then-is_named-clause-only : goal.returns-then-is_named-clause-only
returns-then-is_named-clause-only c = λ number refusal same. ap (λ (n : ℕ). Some n) (one_name c.loop-number.number number c.if-is_named.ensures.0 refusal (sym c.if-is_named.ensures.1 ∙ same))

pub returns-clause-only : goal.returns-clause-only
returns-clause-only c = λ number refusal same. absurd (c.loop-number.invariant number (omega (arith, (refusal_below number refusal).1)) refusal same)
