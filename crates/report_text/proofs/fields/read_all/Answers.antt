use Rattle.std.proofs.Common.{◌≡◌, [], ◌∙◌, sym, ap, refl, subst, length, List, ℕ, append-nil, ◌==◌, MatchBool}
use Rattle.report_text.specs.Lines.{number_fields}
use Rattle.report_text.proofs.fields.read_all.Goals as goal

pub returns-in-Some-clause-only : goal.returns-in-Some-clause-only
returns-in-Some-clause-only c = λ ns len small is.
    let read = c.in-Some.ensures.only ns [] len small refl (is ∙ sym (append-nil (number_fields ns))) in
    subst (λ b. MatchBool b (c.read_numbers.new.values ≡ ns) ⊥) (sym (c.is_empty.ensures ∙ ap (λ (bs : List ℕ). length bs == 0) read.1)) read.0

pub returns-in-None-clause-only : goal.returns-in-None-clause-only
returns-in-None-clause-only c = λ ns len small is. absurd (c.in-None.ensures.only ns [] len small refl (is ∙ sym (append-nil (number_fields ns))))
