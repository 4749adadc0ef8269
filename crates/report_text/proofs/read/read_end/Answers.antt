use Rattle.std.proofs.Common.{[], ◌∷◌, ap, drop, refl, Some, get_or, List, ℕ}
use Rattle.report_text.specs.declared.line.Line.TheVariants as line
use Rattle.report_text.proofs.LineKinds.{of_kind, End}
use Rattle.report_text.proofs.read.read_end.Goals as goal

pub returns-then-not-read_all-clause-only : goal.returns-then-not-read_all-clause-only
returns-then-not-read_all-clause-only c = of_kind End c.args.text.now _ (λ f ok is. absurd (c.if-not-read_all.ensures.only (f ∷ []) refl ok (ap (drop 3) is)))

pub returns-clause-only : goal.returns-clause-only
returns-clause-only c = of_kind End c.args.text.now _ (λ f ok is.
    let same = c.if-not-read_all.ensures.only (f ∷ []) refl ok (ap (drop 3) is) in
    ap (λ (vs : List ℕ). Some (line.End (get_or vs 0 0))) same)
