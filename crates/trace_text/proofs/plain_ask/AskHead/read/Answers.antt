use Rattle.std.proofs.Common.{◌≡◌, ◌∷◌, ◌++◌, ◌-◌, length, Some, sym, ap, ◌∙◌, refl}
use Rattle.std.proofs.lemmas.Bool.Decides.{Decides-eqb}
use Rattle.std.proofs.lemmas.Slice.Eq.{strip_prefix_is}
use Rattle.trace_text.proofs.HeadFacts.{front-says}
use Rattle.trace_text.proofs.plain_ask.AskHead.read.Goals as goal

pub invariant_of-result-clause-says : goal.invariant_of-result-clause-says
invariant_of-result-clause-says c =
    let numbers = c.in_ok-numbers.numbers in
    let rest = c.in_ok-round.rest.now in
    let named : c.args.text.now ≡ 97 ∷ 115 ∷ 107 ∷ 44 ∷ numbers.now =
    strip_prefix_is Decides-eqb c.args.text.now c.as_slice.result.now (Some numbers) c.in_ok-numbers.ensures.cases ∙ ap (λ l. l ++ numbers.now) c.as_slice.ensures in
    rw c.split_at.ensures.front (front-says c.args.text.now numbers.now rest c.in_ok-round.round (length c.args.text.now - length rest) named c.in_ok-round.ensures refl).0

pub returns : goal.returns
returns c =
    let numbers = c.in_ok-numbers.numbers in
    let rest = c.in_ok-round.rest.now in
    let named : c.args.text.now ≡ 97 ∷ 115 ∷ 107 ∷ 44 ∷ numbers.now =
    strip_prefix_is Decides-eqb c.args.text.now c.as_slice.result.now (Some numbers) c.in_ok-numbers.ensures.cases ∙ ap (λ l. l ++ numbers.now) c.as_slice.ensures in
    (front-says c.args.text.now numbers.now rest c.in_ok-round.round (length c.args.text.now - length rest) named c.in_ok-round.ensures refl).1 ∙ ap (λ l. l ++ rest) (sym c.split_at.ensures.front)
