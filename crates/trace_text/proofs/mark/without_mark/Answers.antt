use Rattle.std.proofs.Common.{◌++◌, Some, None, ap, ◌∙◌}
use Rattle.std.proofs.lemmas.Bool.Decides.{Decides-eqb}
use Rattle.std.proofs.lemmas.Slice.Eq.{strip_prefix_is}
use Rattle.trace_text.proofs.LineFacts.{marked, unmarked}
use Rattle.trace_text.proofs.mark.without_mark.Goals as goal

pub returns-in-Some : goal.returns-in-Some
returns-in-Some c =
    marked c.args.text.now c.in-Some.rest.now
    (strip_prefix_is Decides-eqb c.args.text.now c.as_slice.result.now (Some c.in-Some.rest) c.in-Some.ensures.cases ∙ ap (λ l. l ++ c.in-Some.rest.now) c.as_slice.ensures)

pub returns-in-None : goal.returns-in-None
returns-in-None c =
    let other = strip_prefix_is Decides-eqb c.args.text.now c.as_slice.result.now None c.in-None.ensures.cases in
    unmarked c.args.text.now (rw c.as_slice.ensures at other)
