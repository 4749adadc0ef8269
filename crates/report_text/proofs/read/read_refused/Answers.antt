use Rattle.std.proofs.Common.{[], ◌∷◌, ap, drop, refl, Some, get_or}
use Rattle.report_text.specs.declared.line.Line.TheVariants as line
use Rattle.report_text.specs.Lines.{fields}
use Rattle.report_text.specs.Names.{answer_name}
use Rattle.report_text.proofs.LineKinds.{of_kind, Refused}
use Rattle.report_text.proofs.read.read_refused.Goals as goal

pub returns-in_err-rest-clause-only : goal.returns-in_err-rest-clause-only
returns-in_err-rest-clause-only c = of_kind Refused c.args.text.now _ (λ f ok is. absurd (c.in_err-rest.ensures.only (f.0 ∷ []) (fields (answer_name f.1 ∷ [])) refl ok.0 refl (ap (drop 7) is)))

pub returns-in_err-read_name-clause-only : goal.returns-in_err-read_name-clause-only
returns-in_err-read_name-clause-only c = of_kind Refused c.args.text.now _ (λ f ok is.
    let same = c.in_ok-rest.ensures.only (f.0 ∷ []) (fields (answer_name f.1 ∷ [])) refl ok.0 refl (ap (drop 7) is) in
    absurd (c.in_err-read_name.ensures.only f.1 ok.1 same.1))

pub returns-clause-only : goal.returns-clause-only
returns-clause-only c = of_kind Refused c.args.text.now _ (λ f ok is.
    let same = c.in_ok-rest.ensures.only (f.0 ∷ []) (fields (answer_name f.1 ∷ [])) refl ok.0 refl (ap (drop 7) is) in
    let named = c.in_ok-read_name.ensures.only f.1 ok.1 same.1 in
    λ i. Some (line.Refused (get_or (same.0 i) 0 0) (named i)))
