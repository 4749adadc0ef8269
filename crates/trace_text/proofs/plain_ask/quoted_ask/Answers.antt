use Rattle.std.proofs.Common.{◌≡◌, ◌∷◌, ◌++◌, Some, ap, ◌∙◌}
use Rattle.std.proofs.lemmas.Bool.Decides.{Decides-eqb}
use Rattle.std.proofs.lemmas.Slice.Eq.{strip_prefix_is}
use Rattle.trace_text.proofs.EndFacts.{quoted-ask}
use Rattle.trace_text.proofs.plain_ask.quoted_ask.Goals as goal

pub returns : goal.returns
returns c =
    let first = c.in_ok-rest.rest in
    let named : c.args.text.now ≡ 34 ∷ 97 ∷ 115 ∷ 107 ∷ 34 ∷ 44 ∷ 34 ∷ first.now =
    strip_prefix_is Decides-eqb c.args.text.now c.as_slice.result.now (Some first) c.in_ok-rest.ensures.cases ∙ ap (λ l. l ++ first.now) c.as_slice.ensures in
    quoted-ask c.args.text.now first.now c.in_ok-round.rest.now c.in_ok-src.rest.now c.in_ok-dst.rest.now c.in_ok-slots.rest.now c.in_ok-rest-2.rest.now _ named c.in_ok-round.ensures c.in_ok-src.ensures
    c.in_ok-dst.ensures c.in_ok-slots.ensures c.in_ok-rest-2.ensures
