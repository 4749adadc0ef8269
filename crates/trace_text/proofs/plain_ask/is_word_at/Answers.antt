use Rattle.std.proofs.Common.{◌≡◌, sym, ◌∙◌, arith}
use Rattle.std.proofs.lemmas.Bool.Decides.{nat_tests}
use Rattle.trace_text.proofs.HeadFacts.{word-more, word_of}
use Rattle.trace_text.proofs.plain_ask.is_word_at.Goals as goal

pub returns : goal.returns
returns c same before =
    let equal : c.word_at.result ≡ c.word_at-2.result = grind (arith, nat_tests) in
    let words : word_of c.args.head.now c.args.at ≡ word_of c.args.text.now c.args.at = sym c.word_at.ensures ∙ equal ∙ c.word_at-2.ensures in
    word-more c.args.head.now c.args.text.now c.args.at (λ i. omega (arith, c.type_inv.head i)) (λ i. omega (arith, c.type_inv.text i)) c.requires.head c.requires.text words before
