use Rattle.std.proofs.Common.{◌≡◌, ◌∷◌, ◌++◌, Some, ap, ◌∙◌}
use Rattle.std.proofs.lemmas.Bool.Decides.{Decides-eqb}
use Rattle.std.proofs.lemmas.Slice.Eq.{strip_prefix_is}
use Rattle.trace_text.proofs.plain_ask.quoted_number.Goals as goal

pub returns : goal.returns
returns c =
    let rest = c.in_ok-rest.rest in
    let behind : c.in_ok-number.behind.now ≡ 44 ∷ 34 ∷ rest.now =
    strip_prefix_is Decides-eqb c.in_ok-number.behind.now c.as_slice.result.now (Some rest) c.in_ok-rest.ensures.cases ∙ ap (λ l. l ++ rest.now) c.as_slice.ensures in
    let (digits, is, number, value) = c.in_ok-number.ensures in
    (digits, is ∙ ap (λ l. digits ++ 34 ∷ l) behind, number, value)
