use Rattle.std.proofs.Common.{[], ◌∷◌, ap, drop, refl, Some, get_or, List, ℕ}
use Rattle.report_text.specs.declared.line.Line.TheVariants as line
use Rattle.report_text.proofs.LineKinds.{of_kind, Sent}
use Rattle.report_text.proofs.read.read_sent.Goals as goal

pub returns-then-not-read_all-clause-only : goal.returns-then-not-read_all-clause-only
returns-then-not-read_all-clause-only c = of_kind Sent c.args.text.now _ (λ f ok is. absurd (c.if-not-read_all.ensures.only (f.0 ∷ f.1 ∷ f.2 ∷ []) refl ok (ap (drop 4) is)))

pub returns-clause-only : goal.returns-clause-only
returns-clause-only c = of_kind Sent c.args.text.now _ (λ f ok is.
    let same = c.if-not-read_all.ensures.only (f.0 ∷ f.1 ∷ f.2 ∷ []) refl ok (ap (drop 4) is) in
    ap (λ (vs : List ℕ). Some (line.Sent (get_or vs 0 0) (get_or vs 1 0) (get_or vs 2 0))) same)
