use Rattle.std.proofs.Common.{[], ◌∷◌, ap, drop, refl, Some, get_or}
use Rattle.report_text.specs.declared.line.Line.TheVariants as line
use Rattle.report_text.specs.Lines.{fields, core_field}
use Rattle.report_text.proofs.LineKinds.{of_kind, Slot}
use Rattle.report_text.proofs.read.read_slot.Goals as goal

pub returns-in_err-rest-clause-only : goal.returns-in_err-rest-clause-only
returns-in_err-rest-clause-only c = of_kind Slot c.args.text.now _ (λ f ok is. absurd (c.in_err-rest.ensures.only (f.0 ∷ f.1 ∷ f.2 ∷ []) (fields (core_field f.3 ∷ [])) refl ok.0 refl (ap (drop 4) is)))

pub returns-in_err-read_core-clause-only : goal.returns-in_err-read_core-clause-only
returns-in_err-read_core-clause-only c = of_kind Slot c.args.text.now _ (λ f ok is.
    let same = c.in_ok-rest.ensures.only (f.0 ∷ f.1 ∷ f.2 ∷ []) (fields (core_field f.3 ∷ [])) refl ok.0 refl (ap (drop 4) is) in
    absurd (c.in_err-read_core.ensures.only f.3 ok.1 same.1))

pub returns-clause-only : goal.returns-clause-only
returns-clause-only c = of_kind Slot c.args.text.now _ (λ f ok is.
    let same = c.in_ok-rest.ensures.only (f.0 ∷ f.1 ∷ f.2 ∷ []) (fields (core_field f.3 ∷ [])) refl ok.0 refl (ap (drop 4) is) in
    let through = c.in_ok-read_core.ensures.only f.3 ok.1 same.1 in
    λ i. Some (line.Slot (get_or (same.0 i) 0 0) (get_or (same.0 i) 1 0) (get_or (same.0 i) 2 0) (through i)))
