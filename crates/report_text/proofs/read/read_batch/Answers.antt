use Rattle.std.proofs.Common.{◌∙◌, [], ◌∷◌, ap, drop, refl, Some, get_or, List, ℕ}
use Rattle.report_text.specs.declared.line.Line.TheVariants as line
use Rattle.report_text.specs.Lines.{bit}
use Rattle.report_text.proofs.Within.{bit_same}
use Rattle.report_text.proofs.LineKinds.{of_kind, Batch}
use Rattle.report_text.proofs.read.read_batch.Goals as goal

pub returns-then-not-read_all-clause-only : goal.returns-then-not-read_all-clause-only
returns-then-not-read_all-clause-only c = of_kind Batch c.args.text.now _ (λ f ok is. absurd (c.if-not-read_all.ensures.only (f.0 ∷ f.1 ∷ f.2 ∷ bit f.3 ∷ f.4 ∷ []) refl ok (ap (drop 5) is)))

pub returns-clause-only : goal.returns-clause-only
returns-clause-only c = of_kind Batch c.args.text.now _ (λ f ok is.
    let same = c.if-not-read_all.ensures.only (f.0 ∷ f.1 ∷ f.2 ∷ bit f.3 ∷ f.4 ∷ []) refl ok (ap (drop 5) is) in
    let cleared = bit_same c.flag.result f.3 (c.flag.ensures ∙ ap (λ (vs : List ℕ). get_or vs 3 0) same) in
    λ i. Some (line.Batch (get_or (same i) 0 0) (get_or (same i) 1 0) (get_or (same i) 2 0) (cleared i) (get_or (same i) 4 0)))
