use Rattle.std.proofs.Common.{◌++◌, ◌∷◌, [], ◌∙◌, List, ℕ, ap, sym, codes}
use Rattle.report_text.specs.Lines.{number_fields}
use Rattle.schedule_audit.proofs.FrontLines.{five_fields, flag_is}
use Rattle.schedule_audit.proofs.front.front_batch.Goals as goal

pub returns-clause-spelled : goal.returns-clause-spelled
returns-clause-spelled c =
    let batch = c.in_ok-batch.batch in
    let src = c.in_ok-src.src in
    let dst = c.in_ok-dst.dst in
    let add = c.in_ok-add.add in
    let rest = c.in_ok-add.rest.now in
    ap (λ (bytes : List ℕ). codes "batch" ++ bytes)
    (five_fields c.args.text.now c.in_ok-batch.rest.now c.in_ok-src.rest.now c.in_ok-dst.rest.now c.in_ok-clear.rest.now rest batch src dst c.in_ok-clear.clear add
    c.in_ok-batch.ensures.0 c.in_ok-src.ensures.0 c.in_ok-dst.ensures.0 c.in_ok-clear.ensures.0 c.in_ok-add.ensures.0
    ∙ ap (λ (clear : ℕ). number_fields (batch ∷ src ∷ dst ∷ clear ∷ add ∷ []) ++ 10 ∷ rest) (sym (flag_is c.in_ok-clear.clear c.in_ok-clear.ensures.1)))
