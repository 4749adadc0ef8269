use Rattle.std.proofs.Common.{◌<◌, ◌*◌, ◌%◌, ◌^◌, ℕ, length, get_or, set, bit_or, sym, ◌∙◌, arith}
use Rattle.std.proofs.lemmas.List.{get_or_default}
use Rattle.slot_batches.specs.Marks.{own_place, own_bit, has_bit}
use Rattle.slot_batches.proofs.MarkLemmas.{sets_it, keeps_others}
use Rattle.slot_batches.proofs.flow_marks.mark_flow.Goals as goal

pub returns-clause-marked : goal.returns-clause-marked
returns-clause-marked c =
    let words = c.args.words.now in
    let at : ℕ = c.place.result in
    let word : ℕ = get_or words at 0 in
    let within : at < length words = omega (arith, c.place.ensures.below, c.requires) in
    (λ i. has_bit (set words at (bit_or word (1 * 2 ^ c.bit.result % 2 ^ 64))) (sym c.place.ensures.value i) (sym c.bit.ensures.value i))
    ∙ sets_it words at c.bit.result word within (get_or_default words at 0 word within) c.bit.ensures.below

pub returns-clause-others : goal.returns-clause-others
returns-clause-others c = λ other was.
    let words = c.args.words.now in
    let at : ℕ = c.place.result in
    let word : ℕ = get_or words at 0 in
    let within : at < length words = omega (arith, c.place.ensures.below, c.requires) in
    keeps_others words at c.bit.result word within (get_or_default words at 0 word within) c.bit.ensures.below (own_place other) (own_bit other) was
