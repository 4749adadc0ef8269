use Rattle.std.proofs.Common.{◌≡◌, ◌||◌, ℕ, List, get_or, ◌∙◌, arith}
use Rattle.std.proofs.lemmas.List.{get_or_read}
use Rattle.endpoint_bitmaps.specs.Slots.{has_slot}
use Rattle.window_allocation.proofs.SlotWords.{has_slot-either}
use Rattle.window_allocation.proofs.end_words.EndWords.either.Goals as goal

pub returns : goal.returns
returns c = λ at.
    let words = c.args.self.now in
    let flow = c.args.flow in
    let sources : List ℕ = words.sources.items in
    let destinations : List ℕ = words.destinations.items in
    let first : c.index.result.now ≡ get_or sources flow.src 0 = get_or_read sources flow.src c.index.result.now (omega (arith, c.requires.0, words.whole_sources, words.sources.ok.0)) c.index.ensures 0 in
    let second : c.index-2.result.now ≡ get_or destinations flow.dst 0 = get_or_read destinations flow.dst c.index-2.result.now (omega (arith, c.requires.1, words.whole_destinations, words.destinations.ok.0)) c.index-2.ensures 0 in
    has_slot-either c.index.result.now c.index-2.result.now at ∙ (λ i. has_slot (first i) at || has_slot (second i) at)
