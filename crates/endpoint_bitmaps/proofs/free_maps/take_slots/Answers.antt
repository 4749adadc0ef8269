use Rattle.std.proofs.Common.{ℕ, get_or, rules}
use Rattle.std.proofs.lemmas.List.{get_or_default}
use Rattle.endpoint_bitmaps.proofs.MapLemmas.{without_taken}
use Rattle.endpoint_bitmaps.proofs.free_maps.take_slots.Goals as goal

pub returns-clause-words : goal.returns-clause-words
returns-clause-words c = λ at slot.
    let words = c.args.words.now in
    let word : ℕ = get_or words c.args.endpoint 0 in
    without_taken words c.args.endpoint word c.args.slots at slot c.requires.endpoint (search rules) (search rules) (get_or_default words c.args.endpoint 0 word c.requires.endpoint)
