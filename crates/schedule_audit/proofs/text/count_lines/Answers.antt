use Rattle.std.proofs.Common.{◌≡◌, [], ◌∷◌, ◌++◌, length, arith, sym, ◌∙◌, subst, length-append, append_assoc, append-nil}
use Rattle.std.proofs.lemmas.List.{nil_from_length}
use Rattle.std.proofs.lemmas.Bool.{eqb-true}
use Rattle.schedule_audit.specs.Reading.{ReadsLines}
use Rattle.schedule_audit.proofs.FirstLines.{goes_on, shorter, no_lines}
use Rattle.schedule_audit.proofs.text.count_lines.Goals as goal

pub loop-rest-preserved : goal.loop-rest-preserved
loop-rest-preserved c =
    let inv = c.loop-rest.invariant in
    let before = inv.0 in
    let rest = c.loop-rest.rest.now in
    let line = c.first_line-line.result.0 in
    let later = c.first_line-line.result.1.now in
    let begins = c.first_line-line.ensures in
    let less = shorter rest later line begins in (
      before ++ line ∷ [],
      λ after are. subst (ReadsLines c.args.text.now) (sym (append_assoc before (line ∷ []) after)) (inv.1 (line ∷ after) (goes_on rest later line after begins are)),
      omega (arith, inv.2, length-append before (line ∷ [])),
      omega (arith, less, inv.3),
    )

pub returns : goal.returns
returns c =
    let inv = c.loop-rest.invariant in
    let before = inv.0 in
    let done : c.loop-rest.rest.now ≡ [] = nil_from_length c.loop-rest.rest.now (eqb-true (length c.loop-rest.rest.now) 0 (sym c.is_empty.ensures ∙ c.loop-rest-test.false)) in (
      before,
      subst (ReadsLines c.args.text.now) (append-nil before) (inv.1 [] (subst (λ xs. ReadsLines xs []) (sym done) no_lines)),
      inv.2,
    )
