use Rattle.std.proofs.Common.{ℕ, get_or}
use Rattle.std.proofs.lemmas.List.{get_or_default}
use Rattle.slot_batches.proofs.MarkLemmas.{sets_it, keeps_others}
use Rattle.slot_batches.proofs.marks.set_bit.Goals as goal

pub returns-then-at-words-clause-set : goal.returns-then-at-words-clause-set
returns-then-at-words-clause-set c =
    let words = c.args.words.now in
    let at = c.args.at in
    let word : ℕ = get_or words at 0 in
    sets_it words at c.args.bit word c.if-at-words.true (get_or_default words at 0 word c.if-at-words.true) c.requires

pub returns-then-at-words-clause-others : goal.returns-then-at-words-clause-others
returns-then-at-words-clause-others c = λ place other was.
    let words = c.args.words.now in
    let at = c.args.at in
    let word : ℕ = get_or words at 0 in
    keeps_others words at c.args.bit word c.if-at-words.true (get_or_default words at 0 word c.if-at-words.true) c.requires place other was
