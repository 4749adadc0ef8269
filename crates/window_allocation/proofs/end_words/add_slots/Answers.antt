use Rattle.std.proofs.Common.{◌≡◌, ◌<◌, ℕ, List, length, get_or, set, bit_or, sym, ap, ◌∙◌, arith}
use Rattle.std.proofs.lemmas.List.{get_or_read}
use Rattle.endpoint_bitmaps.specs.Slots.{has_slot}
use Rattle.window_allocation.proofs.SlotWords.{more_slots}
use Rattle.window_allocation.proofs.end_words.add_slots.Goals as goal

pub returns-then-endpoint-len-clause-named : goal.returns-then-endpoint-len-clause-named
returns-then-endpoint-len-clause-named c = λ other at is.
    let words : List ℕ = c.args.words.now.items in
    let within : c.args.endpoint < length words = omega (arith, c.if-endpoint-len.true, c.args.words.now.ok.0) in
    let word : c.index_mut.result.now ≡ get_or words c.args.endpoint 0 = get_or_read words c.args.endpoint c.index_mut.result.now within c.index_mut.ensures.value 0 in
    more_slots words c.args.endpoint c.args.slots other at within (ap (λ (w : ℕ). has_slot (get_or (set words c.args.endpoint (bit_or w c.args.slots)) other 0) at) (sym word) ∙ is)
