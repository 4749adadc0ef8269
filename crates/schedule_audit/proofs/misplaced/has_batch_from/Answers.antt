use Rattle.std.proofs.Common.{◌≡◌, ◌||◌, [], ◌∷◌, length, true, false, sym, ap, ◌∙◌, subst}
use Rattle.std.proofs.lemmas.List.{nil_from_length}
use Rattle.std.proofs.lemmas.Bool.{eqb-true}
use Rattle.schedule_audit.specs.Reading.{ReadsLines}
use Rattle.schedule_audit.specs.Lines.{records, reaches}
use Rattle.schedule_audit.proofs.FirstLines.{comes_first, empty_text, shorter}
use Rattle.schedule_audit.proofs.Passes.{reaches-more}
use Rattle.schedule_audit.proofs.misplaced.has_batch_from.Goals as goal

pub returns-then-reaches : goal.returns-then-reaches
returns-then-reaches c = λ lines are.
    let line = c.first_line-line.result.0 in
    let so_far = c.loop-rest.invariant lines are in
    let first = comes_first c.loop-rest.rest.now c.first_line-line.result.1.now line so_far.0 c.first_line-line.ensures so_far.1 in
    let is : reaches c.args.batch (records (line ∷ [])) ≡ true = sym c.reaches.ensures ∙ c.if-reaches.true in
    sym (so_far.2 ∙ (ap (λ xs. reaches c.args.batch (records xs)) first.1 ∙ (reaches-more c.args.batch line first.0 ∙ ap (λ b. b || reaches c.args.batch (records first.0)) is)))

pub loop-rest-preserved : goal.loop-rest-preserved
loop-rest-preserved c = λ lines are.
    let line = c.first_line-line.result.0 in
    let so_far = c.loop-rest.invariant lines are in
    let first = comes_first c.loop-rest.rest.now c.first_line-line.result.1.now line so_far.0 c.first_line-line.ensures so_far.1 in
    let is : reaches c.args.batch (records (line ∷ [])) ≡ false = sym c.reaches.ensures ∙ c.if-reaches.false in (
      first.0,
      first.2,
      so_far.2 ∙ (ap (λ xs. reaches c.args.batch (records xs)) first.1 ∙ (reaches-more c.args.batch line first.0 ∙ ap (λ b. b || reaches c.args.batch (records first.0)) is)),
    )

pub loop-rest-smaller : goal.loop-rest-smaller
loop-rest-smaller c = shorter c.loop-rest.rest.now c.first_line-line.result.1.now c.first_line-line.result.0 c.first_line-line.ensures

pub returns : goal.returns
returns c = λ lines are.
    let so_far = c.loop-rest.invariant lines are in
    let done : c.loop-rest.rest.now ≡ [] = nil_from_length c.loop-rest.rest.now (eqb-true (length c.loop-rest.rest.now) 0 (sym c.is_empty.ensures ∙ c.loop-rest-test.false)) in
    let none : so_far.0 ≡ [] = empty_text so_far.0 (subst (λ xs. ReadsLines xs so_far.0) done so_far.1) in
    sym (so_far.2 ∙ ap (λ xs. reaches c.args.batch (records xs)) none)
